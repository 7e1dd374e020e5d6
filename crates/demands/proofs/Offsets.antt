-- A zone offset as the number of a fact, and back; and the number of such a fact that a text says.
-- Assumes nothing.
use Prim.Native.Nat.{ℕ, suc, ◌+◌, ◌-◌, ◌≤◌}
use mathlib.Core.Bool.{true}
use mathlib.Core.List.{List, [], ◌∷◌}
use mathlib.Core.Logic.{⊎_elim}
use mathlib.Core.Path.{◌≡◌, refl, ap, ◌∙◌}
use native.Mathlib.Omega.{arith}
use borrow.Author.Tests.{le-leb, le-ltb, lt-ltb, ltb-true, ltb-false, leb-true}
use lib.Dec.{ltb}
use lib.IntN.{ℤ, pos, negsuc, nat_abs, ◌-ℤ◌, +ℤ_assoc, -ℤ_one}
use lib.ListN.{length}
use Rattle.laws.proofs.Cases.{either}
use Rattle.kinds.specs.Kinds.{zone_offset}
use Rattle.format.specs.Opening.{opening}
use Rattle.format.specs.declared.opening.Side.TheVariants.{Reader}
use Rattle.matching.specs.Elements.{read_element}
use Rattle.matching.proofs.Sound.{Finds, Sound, sound}
use Rattle.values.specs.Offsets.{is_offset, offset_number, offset_of}
use Rattle.values.proofs.Ranges.{highest}
use Rattle.demands.specs.Facts.{saying, facts_from, facts, Says}
use Rattle.std.specs.Prelude.{Err, None, Ok, Result, Some}
use Rattle.matching.specs.declared.Refused.{Refused}
use Rattle.matching.specs.declared.elements.Item.TheVariants.{Fact as Reads, Skip}
use Rattle.matching.specs.declared.elements.Item.{Item}

-- ---- from the number to the offset, and back

pub offset_none : offset_of 0 ≡ None
unfolding offset_of
offset_none = refl

pub offset_said : (n : ℕ) → n ≤ 2878 → offset_of (suc n) ≡ Some (pos (suc n) -ℤ pos 1440)
unfolding offset_of
offset_said n h = rw (le-leb 1 (suc n) (omega arith), le-leb (suc n) 2879 (omega arith))

pub said_number : (n : ℕ) → offset_number (pos (suc n) -ℤ pos 1440) ≡ n
unfolding offset_number
said_number n = ap nat_abs (+ℤ_assoc (pos (suc n)) (negsuc 1439) (pos 1439) ∙ -ℤ_one (pos (suc n)))

pub said_valid : (n : ℕ) → n ≤ 2878 → is_offset (Some (pos (suc n) -ℤ pos 1440)) ≡ true
unfolding is_offset
said_valid n h =
    le-leb (nat_abs (pos (suc n) -ℤ pos 1440)) 1439
    (either (λ (z : ℤ). nat_abs z ≤ 1439) (ltb (suc n) 1440)
    (λ e. omega (arith, ltb-true (suc n) 1440 e))
    (λ e. omega (arith, ltb-false (suc n) 1440 e)))

pub back : (z : ℤ) → is_offset (Some z) ≡ true → pos (suc (offset_number z)) -ℤ pos 1440 ≡ z
unfolding is_offset offset_number
back (pos k) e =
    let q : suc (k + 1439) - 1440 ≡ k = omega arith in
    rw (le-ltb (suc (k + 1439)) 1440 (omega arith)) (ap pos q)
back (negsuc k) e =
    let l : suc k ≤ 1439 = leb-true (suc k) 1439 e in
    let q : 1440 - suc (suc (1439 - suc k)) ≡ k = omega arith in
    rw (le-ltb 1439 (suc k) l, lt-ltb (suc (1439 - suc k)) 1440 (omega arith)) (ap negsuc q)

-- ---- what a text says of it

module _ (s : List ℕ) (n : ℕ) where
  by-item : (es : List ℕ) → ((p : ℕ) → p ≤ length s → Says (facts_from es s p) zone_offset n → n ≤ 2878)
      → (i : Result Item Refused) → Sound s i
      → Says (saying (λ next. facts_from es s next) i) zone_offset n → n ≤ 2878
  unfolding saying Says Finds highest
  by-item es rest (Ok (Skip next)) h x = rest next h x
  by-item es rest (Ok (Reads k v f from next)) h x =
      ⊎_elim (λ z. omega (arith, z.1, rw z.0 at h.0.high)) (λ z. rest next h.2 z) x
  by-item es rest (Err why) h x = absurd x

  most : (es : List ℕ) (at : ℕ) → at ≤ length s → Says (facts_from es s at) zone_offset n → n ≤ 2878
  unfolding facts_from Says
  most [] at h x = absurd x
  most (e ∷ es) at h x = by-item es (λ p l y. most es p l y) (read_element e s at) (sound s at h e) x

pub offset_most : (f s : List ℕ) (n : ℕ) → Says (facts f s) zone_offset n → n ≤ 2878
unfolding facts
offset_most f s n x = most s n (opening Reader f).elements 0 (omega arith) x
