-- Judging the day and the hour.
use Rattle.std.specs.Prelude.{cond}
use Rattle.calendar.specs.Calendar.{days}
use Rattle.agreement.specs.Agreement.{day_borne, hour_borne, day_agrees, hour_agrees}
use Rattle.agreement.specs.Search.{first_two}
use Rattle.agreement.specs.declared.Facts.{Facts}
use Rattle.agreement.specs.declared.Found.{Found}
use Rattle.agreement.specs.declared.Found.TheVariants.{Nothing, One, Two}
use Rattle.agreement.specs.declared.Verdict.{Verdict}
use Rattle.agreement.specs.declared.Verdict.TheVariants.{Unsaid, Impossible, Open, Agreed}

-- none agrees: impossible; two or more do: open, with the first two; otherwise the one that agrees
unfoldable pub verdict_of : Found → Verdict
verdict_of Nothing = Impossible
verdict_of (One a) = Agreed a
verdict_of (Two a b) = Open a b

-- the first two days that agree, by their day numbers
unfoldable pub days_found : Facts → Found
days_found f = first_two (day_agrees f) 1 days

-- the verdict on the day
unfoldable pub day_verdict : Facts → Verdict
day_verdict f = let found = verdict_of (days_found f) in cond (day_borne f) found Unsaid

-- the verdict on the hour
unfoldable pub hour_verdict : Facts → Verdict
hour_verdict f = let found = verdict_of (first_two (hour_agrees f) 0 24) in cond (hour_borne f) found Unsaid

-- everything here, for proofs that compute
unfoldable pub computes : Unit {0}
unfolding verdict_of days_found day_verdict hour_verdict
computes = tt
