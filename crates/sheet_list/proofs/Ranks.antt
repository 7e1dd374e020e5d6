-- Words in ascending order: where one belongs, and that it is put there.
-- Assumes nothing.
use Prim.Native.Nat.{ℕ, zero, suc, ◌≤◌, ◌<◌}
use mathlib.Core.Bool.{Bool, true, false, and-eq-true_iff}
use mathlib.Core.List.{List, [], ◌∷◌}
use mathlib.Core.Path.{◌≡◌, refl, ap}
use native.Mathlib.Decide.{dec_le, dec_lt}
use native.Mathlib.Omega.{arith}
use borrow.Author.Tests.{lt-ltb, le-ltb, le-leb, lt-leb, leb-true, ltb-true, ltb-false}
use lib.Dec.{leb, ltb}
use lib.ListN.{length, get_or}
use Rattle.std.specs.List.{AllWithin}
use Rattle.std.specs.List.Sorted.{IsNonDecreasing, IsPartitionPoint}
use Rattle.laws.specs.Lists.{every}
use Rattle.laws.proofs.Cases.{picked}
use Rattle.sheet_list.specs.Ascending.{ascending_from, inserted, below}
use Rattle.sheet_list.specs.Private.{put_at}

-- the first word of an ascending list, and the others
pub first_rest : (low y : ℕ) (s : List ℕ) → ascending_from low (y ∷ s) ≡ true → (low ≤ y) × (ascending_from y s ≡ true)
unfolding ascending_from
first_rest low y s a = let b = (and-eq-true_iff (leb low y) (ascending_from y s)).0 a in (leb-true low y b.0, b.1)

-- ---- how many words are lower

pub below_most : (x : ℕ) (s : List ℕ) → below x s ≤ length s
unfolding below
below_most x [] = omega arith
below_most x (y ∷ s) = picked (λ n. n ≤ suc (length s)) (ltb y x) (omega (arith, below_most x s)) (omega arith)

pub not_lower : (x : ℕ) (s : List ℕ) (i : ℕ) → i < length s → x ≤ get_or s i 0 → below x s ≤ i
unfolding below
not_lower x [] i h l = absurd (omega arith)
not_lower x (y ∷ s) zero h l = rw (le-ltb y x l) (omega arith)
not_lower x (y ∷ s) (suc i) h l =
    picked (λ n. n ≤ suc i) (ltb y x) (omega (arith, not_lower x s i (omega arith) l)) (omega arith)

pub at_least : (low : ℕ) (s : List ℕ) (i d : ℕ) → ascending_from low s ≡ true → i < length s → low ≤ get_or s i d
at_least low [] i d a h = absurd (omega arith)
at_least low (y ∷ s) zero d a h = (first_rest low y s a).0
at_least low (y ∷ s) (suc i) d a h =
    let b = first_rest low y s a in omega (arith, b.0, at_least y s i d b.1 (omega arith))

pub lower : (low x : ℕ) (s : List ℕ) (i : ℕ) → ascending_from low s ≡ true → i < length s → get_or s i 0 < x → i < below x s
unfolding below
lower low x [] i a h l = absurd (omega arith)
lower low x (y ∷ s) zero a h l = rw (lt-ltb y x l) (omega arith)
lower low x (y ∷ s) (suc i) a h l =
    let b = first_rest low y s a in
    let g : y < x = omega (arith, at_least y s i 0 b.1 (omega arith)) in
    rw (lt-ltb y x g) (omega (arith, lower y x s i b.1 (omega arith) l))

-- a word is at least as high as those before it
pub rises : (low : ℕ) (s : List ℕ) → ascending_from low s ≡ true → IsNonDecreasing s
rises low [] a i j d h l = absurd (omega arith)
rises low (x ∷ s) a zero zero d h l = omega arith
rises low (x ∷ s) a zero (suc j) d h l = at_least x s j d (first_rest low x s a).1 (omega arith)
rises low (x ∷ s) a (suc i) zero d h l = absurd (omega arith)
rises low (x ∷ s) a (suc i) (suc j) d h l = rises x s (first_rest low x s a).1 i j d (omega arith) (omega arith)

-- so the lower ones are those before a place, if they are lower there and none is from there on
pub at_point : (x : ℕ) (s : List ℕ) (i : ℕ) → ascending_from 0 s ≡ true → i ≤ length s
    → IsPartitionPoint (λ y. ltb y x ≡ true) (λ y. ltb y x ≡ false) s i
    → i ≡ below x s
at_point x s i a h p = omega (arith, least i h p.0, most (dec_lt i (length s)))
  where
    least : (k : ℕ) → k ≤ length s → AllWithin (λ y. ltb y x ≡ true) s 0 k → k ≤ below x s
    least zero l q = omega arith
    least (suc k) l q = lower 0 x s k a (omega arith) (ltb-true _ x (q k 0 (omega arith) (omega arith)))

    most : Dec (i < length s) → below x s ≤ i
    most (yes l) = not_lower x s i l (ltb-false _ x (p.1 i 0 (omega arith) l))
    most (no l) = omega (arith, l, below_most x s)

-- ---- one word more

pub inserted_is : (x : ℕ) (s : List ℕ) → inserted x s ≡ put_at (below x s) x s
unfolding inserted below put_at
inserted_is x [] = refl
inserted_is x (y ∷ s) =
    elim (dec_le x y) [
      | yes h ↦ rw (le-leb x y h, le-ltb y x h)
      | no h ↦
          let g : y < x = omega (arith, h) in
          rw (lt-leb x y g, lt-ltb y x g) (ap (λ (r : List ℕ). y ∷ r) (inserted_is x s))
    ]

pub inserted_length : (x : ℕ) (s : List ℕ) → length (inserted x s) ≡ suc (length s)
unfolding inserted
inserted_length x [] = refl
inserted_length x (y ∷ s) =
    picked (λ (r : List ℕ). length r ≡ suc (suc (length s))) (leb x y) refl (ap suc (inserted_length x s))

pub inserted_every : (p : ℕ → Bool) (x : ℕ) (s : List ℕ) → p x ≡ true → every p s ≡ true → every p (inserted x s) ≡ true
unfolding inserted every
inserted_every p x [] e f = rw e
inserted_every p x (y ∷ s) e f =
    let g = (and-eq-true_iff (p y) (every p s)).0 f in
    picked (λ (r : List ℕ). every p r ≡ true) (leb x y) (rw (e, g.0, g.1)) (rw g.0 (inserted_every p x s e g.1))

pub inserted_ascends : (low x : ℕ) (s : List ℕ) → low ≤ x → ascending_from low s ≡ true → ascending_from low (inserted x s) ≡ true
unfolding inserted ascending_from
inserted_ascends low x [] h a = rw (le-leb low x h)
inserted_ascends low x (y ∷ s) h a =
    let b = first_rest low y s a in
    elim (dec_le x y) [
      | yes l ↦ rw (le-leb x y l, le-leb low x h, le-leb x y l) b.1
      | no l ↦
          let g : y < x = omega (arith, l) in
          rw (lt-leb x y g, le-leb low y b.0) (inserted_ascends y x s (omega arith) b.1)
    ]
