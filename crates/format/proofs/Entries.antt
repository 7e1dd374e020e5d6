-- How many entries of a slice are elements, counted at each of its places.
-- Assumes nothing.
use Prim.Native.Nat.{ℕ, zero, suc, min, ◌≤◌, ◌<◌}
use mathlib.Core.Bool.{Bool, true, false, cond, and-eq-true_iff}
use mathlib.Core.List.{List, [], ◌∷◌}
use mathlib.Core.Path.{◌≡◌, refl, ap}
use native.Mathlib.Decide.{dec_le}
use native.Mathlib.Nat.{le_of_suc-le-suc, lt_of_not-le}
use native.Mathlib.Omega.{arith}
use lib.ListN.{length, get_or}
use Rattle.laws.specs.Lists.{every}
use Rattle.laws.proofs.Lists.{every_of}
use Rattle.format.specs.Opening.{is_element, elements_in}
use Rattle.format.specs.declared.opening.Side.{Side}

-- entries for a side
module _ (side : Side) where
  none : (n : ℕ) → elements_in side n [] ≡ 0
  unfolding elements_in
  none zero = refl
  none (suc n) = refl

  -- they end before the first that is none, and with the entries that are looked at
  pub ends_before : (n : ℕ) (es : List ℕ) (k : ℕ) → k < n → k < length es → ((j : ℕ) → j < k → is_element side (get_or es j 0) ≡ true)
      → is_element side (get_or es k 0) ≡ false → k ≡ elements_in side n es
  unfolding elements_in
  ends_before zero es k a b h f = absurd (omega arith)
  ends_before (suc n) [] k a b h f = absurd (omega arith)
  ends_before (suc n) (e ∷ es) zero a b h f = rw f
  ends_before (suc n) (e ∷ es) (suc k) a b h f =
      rw (h 0 (omega arith)) (ap suc (ends_before n es k (omega arith) (omega arith) (λ j l. h (suc j) (omega arith)) f))

  pub ends_with : (n : ℕ) (es : List ℕ) → ((j : ℕ) → j < min (length es) n → is_element side (get_or es j 0) ≡ true)
      → min (length es) n ≡ elements_in side n es
  unfolding elements_in
  ends_with zero es h = omega arith
  ends_with (suc n) [] h = omega arith
  ends_with (suc n) (e ∷ es) h =
      rw (h 0 (omega arith)) (omega (arith, ends_with n es (λ j l. h (suc j) (omega arith))))

  -- where all are elements, all count, as far as they are looked at
  pub all_in : (n : ℕ) (es : List ℕ) → every (is_element side) es ≡ true → length es ≤ n → elements_in side n es ≡ length es
  unfolding elements_in every
  all_in n [] t h = none n
  all_in zero (e ∷ es) t h = absurd (omega arith)
  all_in (suc n) (e ∷ es) t h =
      let u = (and-eq-true_iff (is_element side e) (every (is_element side) es)).0 t in
      rw u.0 (ap suc (all_in n es u.1 (le_of_suc-le-suc h)))

  -- what counts is an element and lies within the entries, of which no more than n count
  taken : (t : Bool) (m k : ℕ) → k < cond t (suc m) 0 → (t ≡ true) × (k < suc m)
  taken true m k h = (refl, h)
  taken false m k h = absurd (omega arith)

  pub counted : (n : ℕ) (es : List ℕ) (k : ℕ) → k < elements_in side n es → (k < n) × (k < length es)
      × (is_element side (get_or es k 0) ≡ true)
  unfolding elements_in
  counted zero es k h = absurd (omega arith)
  counted (suc n) [] k h = absurd (omega arith)
  counted (suc n) (e ∷ es) zero h = (omega arith, omega arith, (taken (is_element side e) (elements_in side n es) 0 h).0)
  counted (suc n) (e ∷ es) (suc k) h =
      let u = taken (is_element side e) (elements_in side n es) (suc k) h in
      let v = counted n es k (omega (arith, u.1)) in
      (omega (arith, v.0), omega (arith, v.1), v.2)

  -- no more count than are looked at, nor than there are
  bounded : (k n : ℕ) → (n < k → n < n) → k ≤ n
  bounded k n f =
      elim (dec_le k n) [
        | yes h ↦ h
        | no h ↦ absurd (omega (arith, f (lt_of_not-le h)))
      ]

  module _ (n : ℕ) (es : List ℕ) where
    pub counted_few : elements_in side n es ≤ n
    counted_few = bounded (elements_in side n es) n (λ h. (counted n es n h).0)

    pub counted_within : elements_in side n es ≤ length es
    counted_within = bounded (elements_in side n es) (length es) (λ h. (counted n es (length es) h).1)

    -- where all count, all are elements
    pub counted_all : elements_in side n es ≡ length es → every (is_element side) es ≡ true
    counted_all e = every_of (is_element side) 0 es (λ k h. (counted n es k (omega arith)).2)
