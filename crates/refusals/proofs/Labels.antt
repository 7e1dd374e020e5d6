-- The kinds that have no label, over plain variables.
-- Assumes nothing.
use Prim.Native.Nat.{ℕ, ◌≤◌}
use mathlib.Core.Bool.{Bool, true, false, cond}
use mathlib.Core.List.{List, [], ◌∷◌, map}
use mathlib.Core.Path.{◌≡◌, refl}
use native.Mathlib.Decide.{dec_le}
use native.Mathlib.Nat.{lt_of_not-le}
use native.Mathlib.Omega.{arith}
use borrow.Author.Tests.{ne_eqb}
use lib.ListN.{get_or-eq_default}
use Rattle.conversions.specs.Conversions.{among}
use Rattle.laws.specs.Bytes.{bytes}
use Rattle.laws.specs.Lists.{range}
use Rattle.laws.proofs.Table.{same_at}
use Rattle.refusals.specs.Words.{labels, label}

abbrev labelled : List ℕ
labelled = 2 ∷ 3 ∷ 4 ∷ 6 ∷ 7 ∷ 8 ∷ 9 ∷ 10 ∷ 11 ∷ 12 ∷ 13 ∷ 14 ∷ []

pub no_label : (k : ℕ) → 16 ≤ k → [] ≡ label k
unfolding label labels
no_label k h = rw (get_or-eq_default labels [] {n = k} h)

others : (k : ℕ) → cond (among k labelled) [] (label k) ≡ []
others k = elim (dec_le 16 k) [
  | yes h ↦ rw (← no_label k h) (none (among k labelled))
  | no h ↦ same_at (λ j. cond (among j labelled) [] (label j)) (λ j. []) 16 0 computed k (omega arith) (omega (arith, lt_of_not-le h))
]
  where
    none : (b : Bool) → cond {A = List ℕ} b [] [] ≡ []
    none true = refl
    none false = refl

    computed : map (λ j. cond (among j labelled) [] (label j)) (range 0 16) ≡ map (λ j. []) (range 0 16)
    computed = unfold label labels bytes range among in refl

pub unlabelled : (k : ℕ) → (k ≡ 2 → ⊥) → (k ≡ 3 → ⊥) → (k ≡ 4 → ⊥) → (k ≡ 6 → ⊥) → (k ≡ 7 → ⊥) → (k ≡ 8 → ⊥) → (k ≡ 9 → ⊥) → (k ≡ 10 → ⊥)
    → (k ≡ 11 → ⊥) → (k ≡ 12 → ⊥) → (k ≡ 13 → ⊥) → (k ≡ 14 → ⊥) → label k ≡ []
unfolding among
unlabelled k a b c d e f g h i j l m =
    rw (
      ne_eqb k 2 a,
      ne_eqb k 3 b,
      ne_eqb k 4 c,
      ne_eqb k 6 d,
      ne_eqb k 7 e,
      ne_eqb k 8 f,
      ne_eqb k 9 g,
      ne_eqb k 10 h,
      ne_eqb k 11 i,
      ne_eqb k 12 j,
      ne_eqb k 13 l,
      ne_eqb k 14 m,
    ) at (others k)
