-- The two engines that look for the day, with the days that each examines, and the budget (RULES 8.4). Both look for the same days: what
-- they examine is counted through the second day that agrees, else over the whole calendar.
use Rattle.std.specs.Prelude.{ℕ, Bool, cond, List, [], ◌∷◌, leb}
use Rattle.calendar.specs.Calendar.{sum, days, date_of}
use Rattle.agreement.specs.Agreement.{day_borne, all_agree}
use Rattle.agreement.specs.Search.{through}
use Rattle.agreement.specs.Verdicts.{days_found, day_verdict}
use Rattle.agreement.specs.declared.Facts.{Facts}
use Rattle.agreement.specs.declared.Verdict.{Verdict}
use Rattle.judge.specs.declared.Engine.{Engine}
use Rattle.judge.specs.declared.Engine.TheVariants.{Skipping, Plain, Within}
use Rattle.kinds.specs.Kinds as kinds
use Rattle.values.specs.Values.{date_value}
use Rattle.std.specs.Prelude.{Err, Ok, Result}
use Rattle.judge.specs.declared.Judged.{Judged}
use Rattle.judge.specs.declared.OverBudget.{OverBudget}

-- the last day that is examined
unfoldable pub last_examined : Facts → ℕ
last_examined f = through days (days_found f)

-- where a fact bears on the day, the plain engine examines every day up to it
unfoldable pub plain_count : Facts → ℕ
plain_count f = last_examined f

-- kinds 1 to 4, which hang on the year and the month alone
unfoldable pub month_kinds : List ℕ
month_kinds = kinds.year ∷ kinds.century ∷ kinds.year_in_century ∷ kinds.month ∷ []

-- the year and month of day k agree with all facts of these kinds
unfoldable pub month_agrees : Facts → ℕ → Bool
month_agrees f k = all_agree f month_kinds (λ j. date_value j (date_of k))

-- how many of the first n days lie in such months
unfoldable pub month_days : Facts → ℕ → ℕ
month_days f n = sum (λ k. cond (month_agrees f k) 1 0) n

-- and the skipping engine's count is over the days of such months alone
unfoldable pub skipping_count : Facts → ℕ
skipping_count f = month_days f (last_examined f)

-- none is examined where no fact bears on the day
unfoldable pub counted : Facts → ℕ → ℕ
counted f n = cond (day_borne f) n 0

-- what an engine gives, and that a budget is too small
abbrev pub judged_by : Verdict → ℕ → Judged
judged_by v n = record { verdict = v; examined = n }

abbrev pub over_by : ℕ → OverBudget
over_by b = record { budget = b }

-- what the plain engine gives without a budget: the verdict with its count
unfoldable pub plain_searched : Facts → Result Judged OverBudget
plain_searched f = Ok (judged_by (day_verdict f) (counted f (plain_count f)))

-- what an engine gives; 11 where its budget is smaller than the count without one
unfoldable pub searched : Engine → Facts → Result Judged OverBudget
searched Skipping f = Ok (judged_by (day_verdict f) (counted f (skipping_count f)))
searched Plain f = plain_searched f
searched (Within budget) f =
    let enough = plain_searched f in
    cond (leb (counted f (plain_count f)) budget) enough (Err (over_by budget))

-- everything here, for proofs that compute
unfoldable pub computes : Unit {0}
unfolding last_examined plain_count month_kinds month_agrees month_days skipping_count counted plain_searched searched
computes = tt
