-- The search one number at a time: two stay, and a search goes on from what was found so far.
-- Assumes nothing.
use Prim.Native.Nat.{ℕ, zero, suc, ◌+◌, ◌-◌, ◌≤◌, ◌<◌}
use mathlib.Core.Bool.{Bool, true, false, cond}
use mathlib.Core.Path.{◌≡◌, refl, sym, ◌∙◌}
use native.Mathlib.Numerals.{add-one}
use native.Mathlib.Omega.{arith}
use Rattle.agreement.specs.Search.{hit, is_two, search_from, first_two}
use Rattle.agreement.specs.declared.Found.{Found}
use Rattle.agreement.specs.declared.Found.TheVariants.{Nothing, One, Two}

module _ (p : ℕ → Bool) where
  pub two_stay : (n k : ℕ) (h : Found) → is_two h ≡ true → search_from p n k h ≡ h
  unfolding search_from
  two_stay zero k h e = refl
  two_stay (suc n) k h e = rw e

  either : (t : Bool) (a b k n : ℕ) → Two a b ≡ search_from p n (suc k) (cond t (hit k (Two a b)) (Two a b))
  unfolding hit is_two
  either true a b k n = sym (two_stay n (suc k) (Two a b) refl)
  either false a b k n = sym (two_stay n (suc k) (Two a b) refl)

  pub search_suc : (n k : ℕ) (h : Found) → search_from p (suc n) k h ≡ search_from p n (suc k) (cond (p k) (hit k h) h)
  unfolding search_from is_two
  search_suc n k Nothing = refl
  search_suc n k (One a) = refl
  search_suc n k (Two a b) = either (p k) a b k n

  -- what is found so far: all numbers of the range before k have been looked at
  pub record SoFar (from n k : ℕ) (h : Found) : Type 0 where
    pub upto : k ≤ from + n
    pub same : search_from p (from + n - k) k h ≡ first_two p from n

module _ (p : ℕ → Bool) (from n : ℕ) where
  pub so_far_none : SoFar p from n from Nothing
  unfolding first_two
  so_far_none =
      let all : from + n - from ≡ n = omega arith in
      record { upto = omega arith; same = rw all }

  pub so_far_next : (k : ℕ) (h : Found) → SoFar p from n k h → k < from + n → SoFar p from n (k + 1) (cond (p k) (hit k h) h)
  so_far_next k h s l =
      let more : from + n - k ≡ suc (from + n - suc k) = omega arith in
      record {
        upto = omega arith;
        same = rw add-one (sym (search_suc p (from + n - suc k) k h) ∙ rw more at s.same);
      }

  pub so_far_hit : (k : ℕ) (h : Found) → SoFar p from n k h → k < from + n → p k ≡ true → SoFar p from n (k + 1) (hit k h)
  so_far_hit k h s l e = rw e at (so_far_next k h s l)

  pub so_far_miss : (k : ℕ) (h : Found) → SoFar p from n k h → k < from + n → p k ≡ false → SoFar p from n (k + 1) h
  so_far_miss k h s l e = rw e at (so_far_next k h s l)

  pub so_far_end : (k : ℕ) (h : Found) → SoFar p from n k h → from + n ≤ k → h ≡ first_two p from n
  unfolding search_from
  so_far_end k h s l =
      let none : from + n - k ≡ 0 = omega arith in
      rw none at s.same

  pub so_far_two : (k : ℕ) (h : Found) → SoFar p from n k h → is_two h ≡ true → h ≡ first_two p from n
  so_far_two k h s e = sym (two_stay p (from + n - k) k h e) ∙ s.same
