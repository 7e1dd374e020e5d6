-- Reading a zone offset (RULES 6.6): a sign and four digits, which must stand right there; no white space is skipped. All that can be
-- wrong with it is told at the place of the sign.
use Prim.Native.Char.{code}
use Rattle.std.specs.Prelude.{ℕ, ◌+◌, ◌*◌, ◌/◌, ◌%◌, Bool, cond, ◌||◌, ◌&&◌, List, [], ◌∷◌, eqb, leb, ℤ, pos, neg_ℤ, drop}
use Rattle.conversions.specs.declared.conversions.Conversion.{Conversion}
use Rattle.text.specs.Digits.{read_digits}
use Rattle.text.specs.declared.digits.Digits.{Digits}
use Rattle.values.specs.Offsets.{offset_number}
use Rattle.std.specs.Prelude.{Err, None, Ok, Result}
use Rattle.matching.specs.declared.Refused.TheVariants.{Mismatch, Range}
use Rattle.matching.specs.declared.Refused.{Refused}
use Rattle.matching.specs.declared.elements.Item.TheVariants.{Fact}
use Rattle.matching.specs.declared.elements.Item.{Item}

unfoldable pub is_sign : ℕ → Bool
is_sign b = eqb b (code "+") || eqb b (code "-")

-- so many minutes after a sign: -0000 is zero
unfoldable pub signed_by : ℕ → ℕ → ℤ
signed_by b n = cond (eqb b (code "-")) (neg_ℤ (pos n)) (pos n)

-- digits after a sign, a fact of kind k: exactly four, of which two are hours to 23 and two are minutes to 59
unfoldable pub offset_at : ℕ → ℕ → Digits → ℕ → Result Item Refused
offset_at k b ds at =
    let hours = ds.value / 100 in
    let minutes = ds.value % 100 in
    cond (eqb ds.count 4)
    (cond (leb hours 23 && leb minutes 59)
    (Ok (Fact k (offset_number (signed_by b (60 * hours + minutes))) None at (at + 5)))
    (Err (Range at)))
    (Err (Mismatch at))

unfoldable pub signed_at : ℕ → List ℕ → ℕ → Result Item Refused
signed_at k [] at = Err (Mismatch at)
signed_at k (b ∷ s) at = cond (is_sign b) (offset_at k b (read_digits 4 s) at) (Err (Mismatch at))

unfoldable pub read_zone : Conversion → List ℕ → ℕ → Result Item Refused
read_zone c s at = signed_at c.kind (drop at s) at

-- everything here, for proofs that compute
unfoldable pub computes : Unit {0}
unfolding is_sign signed_by offset_at signed_at read_zone
computes = tt
