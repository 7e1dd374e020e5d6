-- Reading a zone offset against its definition, one way out at a time, over plain variables.
-- Assumes nothing.
use Prim.Native.Nat.{ℕ, zero, suc, ◌+◌, ◌-◌, ◌*◌, ◌/◌, ◌%◌, ◌≤◌, ◌<◌}
use mathlib.Core.Bool.{Bool, true, false}
use mathlib.Core.List.{List}
use mathlib.Core.Path.{◌≡◌, refl, sym}
use native.Mathlib.Nat.{add_comm}
use native.Mathlib.Numerals.{add-one}
use native.Mathlib.Omega.{arith}
use borrow.Author.Tests.{le-leb, lt-leb, le-ltb, eq-eqb, ne_eqb}
use lib.Dec.{eqb}
use lib.IntN.{ℤ, pos, neg_ℤ, nat_abs, ◌+ℤ◌}
use lib.ListN.{length, get_or, drop, drop_of_length-le}
use lib.Seq.{drop-cons}
use Rattle.laws.proofs.Cases.{either}
use Rattle.conversions.specs.declared.conversions.Conversion.{Conversion}
use Rattle.matching.specs.Zones.{is_sign, signed_by, offset_at, signed_at, read_zone}
use Rattle.text.specs.Digits.{read_digits}
use Rattle.text.specs.declared.digits.Digits.{Digits}
use Rattle.values.specs.Offsets.{offset_number}
use Rattle.matching.proofs.Lengths.{run_most}
use Rattle.std.specs.Prelude.{Err, None, Ok, Result}
use Rattle.matching.specs.declared.Refused.TheVariants.{Mismatch, Range}
use Rattle.matching.specs.declared.Refused.{Refused}
use Rattle.matching.specs.declared.elements.Item.TheVariants.{Fact}
use Rattle.matching.specs.declared.elements.Item.{Item}

-- ---- the number of the fact

west : (v : ℕ) → v ≤ 1439 → nat_abs (neg_ℤ (pos v) +ℤ pos 1439) ≡ 1439 - v
west zero h = refl
west (suc v) h = rw (le-ltb 1439 (suc v) h)

pub minus_number : (b v : ℕ) → b ≡ 45 → v ≤ 1439 → 1439 - v ≡ offset_number (signed_by b v)
unfolding offset_number signed_by
minus_number b v e h = rw (eq-eqb b 45 e) (sym (west v h))

pub plus_number : (b v : ℕ) → (b ≡ 45 → ⊥) → 1439 + v ≡ offset_number (signed_by b v)
unfolding offset_number signed_by
plus_number b v e = rw (ne_eqb b 45 e) (add_comm 1439 v)

pub ruleset number_ways = (minus_number, plus_number)

pub number_most : (b v : ℕ) → v ≤ 1439 → offset_number (signed_by b v) ≤ 2878
unfolding offset_number signed_by
number_most b v h =
    either (λ (z : ℤ). nat_abs (z +ℤ pos 1439) ≤ 2878) (eqb b 45)
    (λ _. omega (arith, west v h))
    (λ _. omega arith)

-- ---- the digits

pub four_most : (s : List ℕ) → (read_digits 4 s).count ≤ length s
unfolding read_digits
four_most s = run_most 4 s

module _ (k b : ℕ) (ds : Digits) (at : ℕ) where
  pub not_four : (ds.count ≡ 4 → ⊥) → Err (Mismatch at) ≡ offset_at k b ds at
  unfolding offset_at
  not_four n = rw (ne_eqb ds.count 4 n)

  module _ (n : ds.count ≡ 4) where
    pub many_hours : 23 < ds.value / 100 → Err (Range at) ≡ offset_at k b ds at
    unfolding offset_at
    many_hours h = rw (eq-eqb ds.count 4 n, lt-leb (ds.value / 100) 23 h)

    module _ (h : ds.value / 100 ≤ 23) where
      pub many_minutes : 59 < ds.value % 100 → Err (Range at) ≡ offset_at k b ds at
      unfolding offset_at
      many_minutes m = rw (eq-eqb ds.count 4 n, le-leb (ds.value / 100) 23 h, lt-leb (ds.value % 100) 59 m)

      pub offset_fact : ds.value % 100 ≤ 59 → {v : ℕ} → v ≡ offset_number (signed_by b (60 * (ds.value / 100) + ds.value % 100))
          → Ok (Fact k v None at (at + 5)) ≡ offset_at k b ds at
      unfolding offset_at
      offset_fact m e = rw (eq-eqb ds.count 4 n, le-leb (ds.value / 100) 23 h, le-leb (ds.value % 100) 59 m, e)

-- ---- the sign

module _ (c : Conversion) (s : List ℕ) (at : ℕ) where
  pub zone_end : length s ≤ at → Err (Mismatch at) ≡ read_zone c s at
  unfolding read_zone signed_at
  zone_end h = rw (drop_of_length-le s h)

  module _ (h : at < length s) {t : Bool} (e : t ≡ is_sign (get_or s at 0)) where
    pub no_sign : t ≡ false → Err (Mismatch at) ≡ read_zone c s at
    unfolding read_zone signed_at
    no_sign n = rw (drop-cons s at 0 h, ← e, n)

    pub a_sign : t ≡ true → {ds : Digits} {i : Result Item Refused} → ds ≡ read_digits 4 (drop (at + 1) s)
        → i ≡ offset_at c.kind (get_or s at 0) ds at → i ≡ read_zone c s at
    unfolding read_zone signed_at
    a_sign n d g = rw (drop-cons s at 0 h, ← e, n, ← add-one at, ← d) g

pub ruleset zone_ways = (zone_end, no_sign, a_sign)
