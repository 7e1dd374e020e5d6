-- A moment and the reader's answer for C (RULES 10): eight words and twenty.
-- Those of a moment: year, month, day, hour, minute, second, whether the zone offset is said, and which it is.
-- Those of an answer: 0 number, 1 place, 2 to 4 year, month and day, 5 and 6 whether the hour is said and which, 7 and 8 the minute,
-- 9 and 10 the second, 11 to 13 the second of two days, 14 the second of two hours, 15 the days examined, 16 and 17 the form of the
-- last weekday name and of the last month name, 18 and 19 whether the zone offset is said and which. What the row of the number does not
-- name is 0. An offset is in two's complement.
use Rattle.std.specs.Prelude.{ℕ, List, [], ◌∷◌, ◌++◌, get_or}
use Rattle.calendar.specs.Calendar.{date}
use Rattle.calendar.specs.declared.Date.{Date}
use Rattle.strftime.specs.declared.Fields.{Fields}
use Rattle.strptime.specs.declared.Reading.{Reading}
use Rattle.words.specs.Words as words
use Rattle.words.specs.Words.{offset_from, offset_flag, offset_word, flag, number_or0}
use Rattle.std.specs.Prelude.{None, Option, Some}
use Rattle.names.specs.declared.names.NameForm.TheVariants.{Full, Middle, Short}
use Rattle.names.specs.declared.names.NameForm.{NameForm}
use Rattle.strptime.specs.declared.Shown.TheVariants.{Days, Hours}
use Rattle.strptime.specs.declared.Shown.{Shown}

-- the fields of a moment's words
abbrev pub fields_of : List ℕ → Fields
fields_of ws =
    record {
      year = get_or ws 0 0;
      month = get_or ws 1 0;
      day = get_or ws 2 0;
      hour = get_or ws 3 0;
      minute = get_or ws 4 0;
      second = get_or ws 5 0;
      offset = offset_from (get_or ws 6 0) (get_or ws 7 0);
    }

-- an unsaid day is 0 0 0
abbrev pub day_or_zero : Option Date → Date
day_or_zero None = date 0 0 0
day_or_zero (Some x) = x

-- the form of a name: none, full, middle, short
abbrev pub form_number : Option NameForm → ℕ
form_number None = 0
form_number (Some Full) = 1
form_number (Some Middle) = 2
form_number (Some Short) = 3

-- words 2 to 14, by what is shown: nothing, two days, or two hours
unfoldable pub more : Reading → Option Shown → List ℕ
more r None =
    let x = day_or_zero r.day in
    x.year ∷ x.month ∷ x.day
    ∷ flag r.hour ∷ number_or0 r.hour
    ∷ flag r.minute ∷ number_or0 r.minute
    ∷ flag r.second ∷ number_or0 r.second
    ∷ 0 ∷ 0 ∷ 0 ∷ 0 ∷ []
more r (Some (Days a b)) = a.year ∷ a.month ∷ a.day ∷ 0 ∷ 0 ∷ 0 ∷ 0 ∷ 0 ∷ 0 ∷ b.year ∷ b.month ∷ b.day ∷ 0 ∷ []
more r (Some (Hours a b)) = 0 ∷ 0 ∷ 0 ∷ 0 ∷ a ∷ 0 ∷ 0 ∷ 0 ∷ 0 ∷ 0 ∷ 0 ∷ 0 ∷ b ∷ []

unfoldable pub words_of : Reading → List ℕ
words_of r =
    r.number ∷ r.place
    ∷ (more r r.shown
    ++ (r.examined ∷ form_number r.forms.weekday ∷ form_number r.forms.month
    ∷ offset_flag r.offset ∷ offset_word r.offset ∷ []))

-- everything here and in `words`, for proofs that compute
unfoldable pub computes : Unit {0}
unfolding words.computes more words_of
computes = tt
