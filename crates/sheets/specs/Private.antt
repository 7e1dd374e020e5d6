-- What the code tests of a word, field by field: no part of a promise of the crate.
use Rattle.std.specs.Prelude.{ℕ, ◌-◌, Bool, ◌&&◌, ◌||◌, eqb, leb, ltb}
use Rattle.calendar.specs.Calendar.{date_fault}
use Rattle.calendar.specs.declared.Date.{Date}

-- a field with its flag, which is worth so much, is zero, or is said and has one of the lowest numbers
unfoldable pub is_field : ℕ → ℕ → ℕ → Bool
is_field n size most = eqb n 0 || (leb size n && ltb (n - size) most)

unfoldable pub is_date : Date → Bool
is_date t = eqb (date_fault t.year t.month t.day) 0
