-- A moment: its fields and their ranges (RULES 2).
use Rattle.std.specs.Prelude.{ℕ, ◌-◌, cond, List, [], ◌∷◌, eqb, leb, get_or}
use Rattle.calendar.specs.Calendar.{date, date_fault}
use Rattle.values.specs.Offsets.{is_offset}
use Rattle.std.specs.Prelude.{Err, Ok, Option, Result, ℤ}
use Rattle.values.specs.declared.Moment.{Moment}
use Rattle.values.specs.declared.fields.Field.{Field}
use Rattle.values.specs.declared.fields.Field.TheVariants.{Year, Month, Day, Hour, Minute, Second, Offset}
use Rattle.calendar.specs.declared.DateField.{DateField}
use Rattle.calendar.specs.declared.DateField.TheVariants.{Year as TheYear, Month as TheMonth, Day as TheDay}

-- the first bad field: 1 year, 2 month, 3 day, 4 hour, 5 minute, 6 second, 7 offset; 0 where the moment is valid
unfoldable pub moment_fault : ℕ → ℕ → ℕ → ℕ → ℕ → ℕ → Option ℤ → ℕ
moment_fault y m d h n s o =
    cond (eqb (date_fault y m d) 0)
    (cond (leb h 23) (cond (leb n 59) (cond (leb s 60) (cond (is_offset o) 0 7) 6) 5) 4)
    (date_fault y m d)

-- the fields of a moment, numbered from 1 in this order; the field with a number, and the number of a field
unfoldable pub moment_fields : List Field
moment_fields = Year ∷ Month ∷ Day ∷ Hour ∷ Minute ∷ Second ∷ Offset ∷ []

unfoldable pub field_of : ℕ → Field
field_of n = get_or moment_fields (n - 1) Year

unfoldable pub field_number : Field → ℕ
field_number Year = 1
field_number Month = 2
field_number Day = 3
field_number Hour = 4
field_number Minute = 5
field_number Second = 6
field_number Offset = 7

-- a field of a date as a field of a moment
unfoldable pub of_date : DateField → Field
of_date TheYear = Year
of_date TheMonth = Month
of_date TheDay = Day

-- the moment with these fields, or the first bad field
unfoldable pub moment_of : ℕ → ℕ → ℕ → ℕ → ℕ → ℕ → Option ℤ → Result Moment Field
moment_of y m d h n s o =
    cond (eqb (moment_fault y m d h n s o) 0)
    (Ok (record { date = date y m d; hour = h; minute = n; second = s; offset = o }))
    (Err (field_of (moment_fault y m d h n s o)))

-- everything here, for proofs that compute
unfoldable pub computes : Unit {0}
unfolding moment_fault moment_fields field_of field_number of_date moment_of
computes = tt
