-- What the calendar's constructors answer.
use Rattle.std.specs.Prelude.{ℕ, ◌-◌, cond, List, [], ◌∷◌, eqb, get_or}
use Rattle.calendar.specs.Calendar.{date, within, date_fault, days, date_of}
use Rattle.calendar.specs.declared.Ends.{Ends}
use Rattle.std.specs.Prelude.{Err, None, Ok, Option, Result, Some}
use Rattle.calendar.specs.declared.Date.{Date}
use Rattle.calendar.specs.declared.DateField.{DateField}
use Rattle.calendar.specs.declared.DateField.TheVariants.{Year, Month, Day}

-- the fields of a date, numbered from 1 in this order, and the field with a number
unfoldable pub date_fields : List DateField
date_fields = Year ∷ Month ∷ Day ∷ []

unfoldable pub date_field : ℕ → DateField
date_field n = get_or date_fields (n - 1) Year

-- the date with these fields, or the first bad field
unfoldable pub from_fields : ℕ → ℕ → ℕ → Result Date DateField
from_fields y m d = cond (eqb (date_fault y m d) 0) (Ok (date y m d)) (Err (date_field (date_fault y m d)))

-- the date whose day number is k, for the calendar's own days
unfoldable pub from_day_number : ℕ → Option Date
from_day_number k = cond (within 1 days k) (Some (date_of k)) None

-- the calendar's ends, stated here alone: the date of day 1, that of the last day, and how many days there are
unfoldable pub ends : Ends
ends = record { first = date_of 1; last = date_of days; days = days }

-- everything here, for proofs that compute
unfoldable pub computes : Unit {0}
unfolding date_fields date_field from_fields from_day_number ends
computes = tt
