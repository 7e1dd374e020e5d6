-- How far a search goes.
-- Assumes nothing.
use Prim.Native.Nat.{ℕ, zero, suc, ◌+◌, ◌-◌, ◌≤◌, ◌<◌}
use mathlib.Core.Bool.{Bool, true, false, cond, true≢false}
use mathlib.Core.Path.{◌≡◌, refl, sym}
use native.Mathlib.Omega.{arith}
use Rattle.calendar.specs.Calendar.{days}
use Rattle.agreement.specs.Agreement.{day_agrees}
use Rattle.agreement.specs.Search.{hit, is_two, search_from, first_two, through}
use Rattle.agreement.specs.Verdicts.{days_found}
use Rattle.agreement.specs.declared.Facts.{Facts}
use Rattle.agreement.specs.declared.Found.{Found}
use Rattle.agreement.specs.declared.Found.TheVariants.{Nothing, One, Two}
use Rattle.calendar.proofs.Years.{days_is}
use Rattle.agreement.proofs.SoFar.{SoFar, search_suc, two_stay}
use Rattle.agreement.proofs.Tells.{Tells, double, tells}

-- without two the search goes to the end, and the second ends it
pub through_all : (last : ℕ) (h : Found) → is_two h ≡ false → through last h ≡ last
unfolding is_two through
through_all last Nothing e = refl
through_all last (One a) e = refl
through_all last (Two a b) e = absurd (true≢false e)

pub through_second : (last k : ℕ) (h : Found) → is_two h ≡ false → is_two (hit k h) ≡ true → through last (hit k h) ≡ k
unfolding is_two hit through
through_second last k Nothing e f = absurd (true≢false (sym f))
through_second last k (One a) e f = refl
through_second last k (Two a b) e f = absurd (true≢false e)

-- while no two are found the search goes on
module _ (p : ℕ → Bool) (last : ℕ) where
  -- k is looked at, and what follows goes on from each found without two
  looked : (n k : ℕ) (b : Bool) (h : Found) → ((h : Found) → is_two h ≡ false → k ≤ through last (search_from p n (suc k) h))
      → is_two h ≡ false → k ≤ through last (search_from p n (suc k) (cond b (hit k h) h))
  unfolding is_two hit through
  looked n k false h more e = more h e
  looked n k true Nothing more e = more (One k) refl
  looked n k true (One a) more e = rw (two_stay p n (suc k) (Two a k) refl) (omega arith)
  looked n k true (Two a b) more e = absurd (true≢false e)

  goes_on : (n k : ℕ) (h : Found) → is_two h ≡ false → k + n ≡ last → k ≤ through last (search_from p (suc n) k h)
  unfolding search_from
  goes_on zero k h e s = rw (search_suc p 0 k h) (looked 0 k (p k) h (λ h e. rw (through_all last h e) (omega arith)) e)
  goes_on (suc n) k h e s =
      rw (search_suc p (suc n) k h) (looked (suc n) k (p k) h (λ h e. omega (arith, goes_on n (suc k) h e (omega arith))) e)

  pub so_far_through : (k : ℕ) (h : Found) → SoFar p 1 last k h → is_two h ≡ false → k ≤ last → k ≤ through last (first_two p 1 last)
  so_far_through k h s e l =
      let n : 1 + last - k ≡ suc (last - k) = omega arith in
      rw (← (rw n at s.same)) (goes_on (last - k) k h e (omega arith))

-- the last day examined is one of the calendar's
pub last_in : (f : Facts) → (0 < through days (days_found f)) × (through days (days_found f) ≤ days)
unfolding days_found through
last_in f = go (first_two (day_agrees f) 1 days) (tells (day_agrees f) 1 days)
  where
    some-days : 0 < days
    some-days = omega (arith, days_is)

    go : (h : Found) → Tells (day_agrees f) 1 (1 + days) h → (0 < through days h) × (through days h ≤ days)
    go Nothing t = (some-days, omega arith)
    go (One a) t = (some-days, omega arith)
    go (Two a b) (double l m o q r g) = (omega arith, omega arith)
