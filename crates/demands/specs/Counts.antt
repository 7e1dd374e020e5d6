-- How many days the engines examine (RULES 8.4) for a text that is matched. Where no fact bears on the day it is none: `unborne` of
-- Engines.
use Rattle.std.specs.Prelude.{ℕ, Bool, true, cond, ◌↔◌, ◌≡◌}
use mathlib.Core.List.{List, [], ◌∷◌, Memᴰ as Member}
use Rattle.kinds.specs.Kinds.{day_kinds}
use Rattle.calendar.specs.Calendar.{sum, days}
use Rattle.agreement.specs.Demand.{IsDay, Earliest}
use Rattle.judge.specs.declared.Engine.TheVariants.{Skipping}
use Rattle.strptime.specs.Answers.{reading_by}
use Rattle.demands.specs.Demand.{SomeSaid, DayAgrees}
use Rattle.demands.specs.Engines.{plain_days}
use Rattle.demands.specs.Facts.{Says, facts}
use Rattle.demands.specs.Writes.{WouldWrite, on_day}

-- how many of the numbers 1 to n pass a test
unfoldable pub passing : (ℕ → Bool) → ℕ → ℕ
passing p n = sum (λ k. cond (p k) 1 0) n

-- the kinds that the skipping engine counts by, by their numbers: what they show hangs on the year and the month alone
abbrev pub one_to_four : List ℕ
one_to_four = 1 ∷ 2 ∷ 3 ∷ 4 ∷ []

module _ (f s : List ℕ) where
  -- the year and the month of a day agree with all facts of kinds 1 to 4: the writer would write each
  abbrev pub MonthAgrees : ℕ → Type 0
  MonthAgrees d = (k n : ℕ) → Member k one_to_four → Says (facts f s) k n → WouldWrite k n (on_day d)

  pub record Counts : Type 0 where
    -- the plain engine examines every day through the second that agrees, else all of them
    pub two : (a b : ℕ) → SomeSaid f s day_kinds → Earliest IsDay (DayAgrees f s) a b → plain_days f s ≡ b
    pub all : SomeSaid f s day_kinds → ((a b : ℕ) → Earliest IsDay (DayAgrees f s) a b → ⊥) → plain_days f s ≡ days
    -- the skipping one, of these days, those whose year and month agree: as many as pass any test that tells just that, and there is one
    pub tested : (p : ℕ → Bool) × ((k : ℕ) → IsDay k → (p k ≡ true) ↔ MonthAgrees k)
    pub skipping : (p : ℕ → Bool) → ((k : ℕ) → IsDay k → (p k ≡ true) ↔ MonthAgrees k)
        → (reading_by Skipping f s).examined ≡ passing p (plain_days f s)
