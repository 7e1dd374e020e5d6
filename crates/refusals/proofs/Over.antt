-- A test and numbers over 0, 1, .., n - 1, one at a time.
-- Assumes nothing.
use Prim.Native.Nat.{ℕ, zero, suc, ◌+◌, ◌≤◌, ◌<◌, max}
use mathlib.Core.Bool.{Bool, true, false, cond, ◌||◌}
use mathlib.Core.Logic.{⊎_elim}
use mathlib.Core.List.{List}
use mathlib.Core.Path.{◌≡◌, refl, sym, ap, ap₂, ◌∙◌}
use native.Mathlib.Nat.{eq-or-lt_of_le, le_of_suc-le-suc}
use native.Mathlib.Numerals.{add-one}
use native.Mathlib.Omega.{arith}
use lib.ListN.{length, get_or, take}
use lib.Seq.{take_all}
use Rattle.std.specs.List.{count_by}
use Rattle.std.proofs.lemmas.List.Sums.{count_by_more_yes, count_by_more_no}
use Rattle.laws.proofs.Cases.{picked}
use Rattle.refusals.specs.Over.{some, tally, most}

module _ (p : ℕ → Bool) where
  or-true : (a : Bool) → (a || true) ≡ true
  or-true true = refl
  or-true false = refl

  -- one that passes
  pub some_of : (n k : ℕ) → k < n → p k ≡ true → some p n ≡ true
  unfolding some
  some_of zero k h e = absurd (omega arith)
  some_of (suc n) k h e =
      ⊎_elim
      (λ (q : k ≡ n). rw (← q, e) (or-true (some p k)))
      (λ (l : k < n). rw (some_of n k l e))
      (eq-or-lt_of_le (le_of_suc-le-suc h))

  some_none : (n : ℕ) → ((k : ℕ) → k < n → p k ≡ false) → some p n ≡ false
  unfolding some
  some_none zero h = refl
  some_none (suc n) h = rw (some_none n (λ k l. h k (omega arith)), h n (omega arith))

  pub tally_most : (n : ℕ) → tally p n ≤ n
  unfolding tally
  tally_most zero = omega arith
  tally_most (suc n) = let h = tally_most n in picked (λ (k : ℕ). k ≤ suc n) (p n) (omega arith) (omega arith)

-- over the entries of a list
module _ {X : Type 0} (p : X → Bool) (xs : List X) (d : X) {n : ℕ} (size : length xs ≡ n) where
  pub some_is : {r : Bool} → (r ≡ true → (i : ℕ) × (i < length xs) × (p (get_or xs i d) ≡ true))
      → (r ≡ false → (i : ℕ) → i < length xs → p (get_or xs i d) ≡ false) → r ≡ some (λ k. p (get_or xs k d)) n
  some_is {r = true} y z = let h = y refl in sym (some_of _ n h.0 (omega (arith, h.1)) h.2)
  some_is {r = false} y z = sym (some_none _ n (λ k h. z refl k (omega arith)))

  front : (i : ℕ) → i ≤ length xs → tally (λ k. p (get_or xs k d)) i ≡ count_by p (take i xs)
  unfolding tally
  front zero h = refl
  front (suc i) h = rw (front i (omega arith)) (go (p (get_or xs i d)) refl)
    where
      go : (t : Bool) → p (get_or xs i d) ≡ t
          → cond t (suc (count_by p (take i xs))) (count_by p (take i xs)) ≡ count_by p (take (suc i) xs)
      go true e = sym (rw (add-one i, add-one (count_by p (take i xs))) at (count_by_more_yes p xs i d (omega arith) e))
      go false e = sym (rw (add-one i) at (count_by_more_no p xs i d (omega arith) e))

  pub tally_is : tally (λ k. p (get_or xs k d)) n ≡ count_by p xs
  tally_is = front n (omega arith) ∙ ap (count_by p) (take_all n xs (omega arith))

pub most_more : (f : ℕ → ℕ) (n : ℕ) → most f (n + 1) ≡ max (most f n) (f n)
unfolding most
most_more f n = rw (add-one n)

-- where all are at most m, so is the greatest
pub most_below : (f : ℕ → ℕ) (m n : ℕ) → ((k : ℕ) → f k ≤ m) → most f n ≤ m
unfolding most
most_below f m zero h = omega arith
most_below f m (suc n) h = let i = most_below f m n h in let j = h n in omega arith

-- the same by two tests, or two functions, that are alike
pub some_alike : (p q : ℕ → Bool) → ((k : ℕ) → p k ≡ q k) → (n : ℕ) → some p n ≡ some q n
unfolding some
some_alike p q e zero = refl
some_alike p q e (suc n) = ap₂ (λ (a b : Bool). a || b) (some_alike p q e n) (e n)

pub most_alike : (f g : ℕ → ℕ) → ((k : ℕ) → f k ≡ g k) → (n : ℕ) → most f n ≡ most g n
unfolding most
most_alike f g e zero = refl
most_alike f g e (suc n) = ap₂ max (most_alike f g e n) (e n)
