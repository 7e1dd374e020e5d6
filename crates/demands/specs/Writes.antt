-- When the writer would write a fact for a day or an hour (RULES 8): what it leaves in a buffer for the conversion of the fact's kind is
-- that number, or that half of the day, however filled and in either case.
use Prim.Native.Char.{code}
use Rattle.std.specs.Prelude.{ℕ, ◌-◌, ◌<◌, true, List, [], ◌∷◌, map, ◌⊎◌, ◌≡◌, length, get_or, take, replicate}
use Rattle.laws.specs.Bytes.{bytes}
use Rattle.laws.specs.Lists.{every}
use Rattle.kinds.specs.Kinds.{half_of_day}
use Rattle.calendar.specs.Calendar.{date_of}
use Rattle.names.specs.Case.{fold}
use Rattle.text.specs.Digits.{is_digit, decimal}
use Rattle.strftime.specs.Writing.{Outcome, writing}
use Rattle.strftime.specs.declared.Fields.{Fields}
use Rattle.std.specs.Prelude.{None}

-- the conversion of each kind, 1 to 15 (RULES 7)
unfoldable pub letters : List ℕ
letters = bytes "YCymdjuUWGgVHIp"

unfoldable pub letter_for : ℕ → ℕ
letter_for k = get_or letters (k - 1) 0

-- the conversion of kind k is written, into nine bytes, as many as one of these letters writes at the most
unfoldable pub wrote : ℕ → Fields → Outcome
wrote k t = writing (code "%" ∷ letter_for k ∷ []) t (replicate 9 0)

-- what stands there: the bytes that are counted
unfoldable pub written : ℕ → Fields → List ℕ
written k t = take (wrote k t).answer.place (wrote k t).buffer

-- bytes are a number, filled with zeros or not: one digit at least, digits only, and they spell it
abbrev pub IsNumber : ℕ → List ℕ → Type 0
IsNumber n s = (0 < length s) × (every is_digit s ≡ true) × (decimal 0 s ≡ n)

-- bytes are a half of the day, in capitals or not: 0 is AM and 1 is PM
unfoldable pub halves : List (List ℕ)
halves = bytes "am" ∷ bytes "pm" ∷ []

abbrev pub IsHalf : ℕ → List ℕ → Type 0
IsHalf n s = (n < 2) × (map fold s ≡ get_or halves n [])

-- the writer would write the fact of kind k and number n for these fields
pub record WouldWrite (k n : ℕ) (t : Fields) : Type 0 where
  pub done : (wrote k t).answer.number ≡ 0
  pub shows : ((k ≡ half_of_day → ⊥) × IsNumber n (written k t)) ⊎ ((k ≡ half_of_day) × IsHalf n (written k t))

-- the fields of a day, by its day number, at midnight; and of an hour, on the first day; no zone offset is said
unfoldable pub on_day : ℕ → Fields
on_day d =
    record {
      year = (date_of d).year;
      month = (date_of d).month;
      day = (date_of d).day;
      hour = 0;
      minute = 0;
      second = 0;
      offset = None;
    }

unfoldable pub at_hour : ℕ → Fields
at_hour h = record { year = 1; month = 1; day = 1; hour = h; minute = 0; second = 0; offset = None }
