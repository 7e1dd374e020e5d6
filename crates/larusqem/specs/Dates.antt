-- The calendar's functions and the version, for C.
use Rattle.std.specs.Prelude.{ℕ, ◌+◌, ◌*◌, ◌^◌}
use Rattle.calendar.specs.declared.Date.{Date}
use Rattle.std.specs.Prelude.{Err, None, Ok, Option, Result, Some}
use Rattle.calendar.specs.declared.DateField.{DateField}

-- what f gives for the date that three fields make, 0 where they are no date
abbrev pub value_from : (Date → ℕ) → Result Date DateField → ℕ
value_from f (Ok x) = f x
value_from f (Err n) = 0

-- three numbers in one word: the first above the low 16 bits, the second above the low 8
abbrev pub three_in_one : ℕ → ℕ → ℕ → ℕ
three_in_one a b c = a * 2 ^ 16 + b * 2 ^ 8 + c

-- year, month and day in one word, 0 where the number is no day's
abbrev pub date_word : Option Date → ℕ
date_word (Some x) = three_in_one x.year x.month x.day
date_word None = 0

-- the version, which the prover holds to the numbers of crate version: major, minor and patch in one word
abbrev pub version_word : ℕ
version_word = three_in_one 0 1 0
