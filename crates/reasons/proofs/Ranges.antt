-- The kinds that bear on the day, and on the hour, are numbers in a row.
-- Assumes nothing.
use Prim.Native.Nat.{ℕ, zero, suc, ◌+◌, ◌-◌, ◌≤◌, ◌<◌}
use mathlib.Core.Bool.{Bool, true, false, ◌&&◌}
use mathlib.Core.List.Memᴰ
use mathlib.Core.List.{map, Memᴰ as Member}
use mathlib.Core.Logic.{⊎_elim}
use mathlib.Core.Path.{◌≡◌, refl, sym, ◌∙◌}
use native.Mathlib.Nat.{eq-or-lt_of_le}
use native.Mathlib.Omega.{arith}
use borrow.Author.Tests.{le-leb, lt-leb}
use lib.Dec.{leb, lit≤, lit<}
use Rattle.conversions.specs.Conversions.{among}
use Rattle.kinds.specs.Kinds as kinds
use Rattle.laws.specs.Lists.{range}
use Rattle.laws.proofs.Table.{same_at}
use Rattle.reasons.specs.Private.{first_kind, last_kind}
use Rattle.reasons.specs.Quarrels.{kinds_of}
use Rattle.reasons.specs.declared.About.{About}
use Rattle.reasons.specs.declared.About.TheVariants.{Day, Hour}

pub kinds_row : (a : About) → range (first_kind a) (last_kind a + 1 - first_kind a) ≡ kinds_of a
unfolding first_kind last_kind kinds_of range kinds.computes
kinds_row Day = refl
kinds_row Hour = refl

pub last_few : (a : About) → last_kind a < kinds.kinds
unfolding last_kind
last_few Day = lit< tt
last_few Hour = lit< tt

pub first_most : (a : About) → first_kind a ≤ last_kind a + 1
unfolding first_kind last_kind
first_most Day = lit≤ tt
first_most Hour = lit≤ tt

-- numbers in a row
row_member : (n k j : ℕ) → k ≤ j → j < k + n → Member j (range k n)
unfolding range
row_member zero k j l h = absurd (omega arith)
row_member (suc n) k j l h =
    ⊎_elim
    (λ (e : k ≡ j). Member.head (sym e))
    (λ (m : k < j). Member.tail (row_member n (suc k) j m (omega arith)))
    (eq-or-lt_of_le l)

member_row : (n k j : ℕ) → Member j (range k n) → (k ≤ j) × (j < k + n)
unfolding range
member_row zero k j m = absurd (Memᴰ.not-nil m)
member_row (suc n) k j m =
    ⊎_elim
    (λ (e : j ≡ k). (omega arith, omega arith))
    (λ m. let r = member_row n (suc k) j m in (omega (arith, r.0), omega (arith, r.1)))
    (Memᴰ.cases_cons m)

-- a kind is of those that bear on what is judged exactly if it stands from the first to the last of them
module _ (a : About) (k : ℕ) where
  pub these_member : first_kind a ≤ k → k ≤ last_kind a → Member k (kinds_of a)
  these_member l h = rw (← kinds_row a) (row_member (last_kind a + 1 - first_kind a) (first_kind a) k l (omega arith))

  pub member_these : Member k (kinds_of a) → (first_kind a ≤ k) × (k ≤ last_kind a)
  member_these m =
      let r = member_row (last_kind a + 1 - first_kind a) (first_kind a) k (rw (kinds_row a) m) in
      (r.0, omega (arith, r.1, first_most a))

-- which kinds are among them, by one computed test
between : About → ℕ → Bool
between a k = leb (first_kind a) k && leb k (last_kind a)

computed : (a : About) → map (λ j. among j (kinds_of a)) (range 0 kinds.kinds) ≡ map (between a) (range 0 kinds.kinds)
unfolding between among kinds_of first_kind last_kind range kinds.computes
computed Day = refl
computed Hour = refl

module _ (a : About) where
  among-between : (k : ℕ) → k < kinds.kinds → among k (kinds_of a) ≡ between a k
  among-between k h = same_at (λ j. among j (kinds_of a)) (between a) kinds.kinds 0 (computed a) k (omega arith) (omega arith)

  pub among_before : (k : ℕ) → k < kinds.kinds → k < first_kind a → among k (kinds_of a) ≡ false
  unfolding between
  among_before k h l = among-between k h ∙ rw (lt-leb (first_kind a) k l)

  pub among_after : (k : ℕ) → k < kinds.kinds → first_kind a ≤ k → last_kind a < k → among k (kinds_of a) ≡ false
  unfolding between
  among_after k h m l = among-between k h ∙ rw (le-leb (first_kind a) k m, lt-leb k (last_kind a) l)

  pub among_these : (k : ℕ) → k < kinds.kinds → first_kind a ≤ k → k ≤ last_kind a → among k (kinds_of a) ≡ true
  unfolding between
  among_these k h m l = among-between k h ∙ rw (le-leb (first_kind a) k m, le-leb k (last_kind a) l)
