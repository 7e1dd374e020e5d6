-- The words of moments and of answers worked out (RULES 10.3), each beside what it must be.
use Rattle.std.specs.Prelude.{ℕ, List, [], ◌∷◌, pos, negsuc}
use Rattle.calendar.specs.Calendar.{date}
use Rattle.strftime.specs.declared.Fields.{Fields}
use Rattle.strptime.specs.Answers.{reading_of}
use Rattle.matching.specs.Steps.{both}
use Rattle.calendar.specs.declared.Date.{Date}
use Rattle.matching.specs.declared.Forms.{Forms}
use Rattle.strptime.specs.declared.Done.{Done}
use Rattle.strptime.specs.declared.ReadRefusal.{ReadRefusal}
use Rattle.strptime.specs.declared.ReadRefusal.TheVariants.{NoMatch, OpenDay, OpenHour}
use Rattle.larusqem.specs.Words.{fields_of, words_of}
use Rattle.std.specs.Prelude.{Err, None, Ok, Option, Result, Some, ℤ}
use Rattle.names.specs.declared.names.NameForm.TheVariants.{Full, Middle, Short}

-- the words of an answer, and what they must be
abbrev pub Case : Type 0
Case = List ℕ × List ℕ

abbrev words : Result Done ReadRefusal → List ℕ
words a = words_of (reading_of a)

-- a finished reading
abbrev done : ℕ → Option Date → Option ℕ → Option ℕ → Option ℕ → Option ℤ → Forms → ℕ → Result Done ReadRefusal
done p d h m s o fs n =
    Ok (record { unread = p; day = d; hour = h; minute = m; second = s; offset = o; forms = fs; examined = n })

-- the fields of a moment's eight words, of which the last two are given
abbrev fields : ℕ → ℕ → Fields
fields said w = fields_of (1934 ∷ 3 ∷ 5 ∷ 7 ∷ 8 ∷ 9 ∷ said ∷ w ∷ [])

-- 1934-03-05 07:08:09 at an offset
abbrev at : Option ℤ → Fields
at o = record { year = 1934; month = 3; day = 5; hour = 7; minute = 8; second = 9; offset = o }

-- the offset is unsaid, whatever the last word is; east, west, and beyond what a moment takes
unfoldable pub moment_cases : List (Fields × Fields)
moment_cases =
    (fields 0 90, at None)
    ∷ (fields 1 0, at (Some (pos 0)))
    ∷ (fields 1 90, at (Some (pos 90)))
    ∷ (fields 2 4294967266, at (Some (negsuc 29)))
    ∷ (fields 1 2147483647, at (Some (pos 2147483647)))
    ∷ (fields 1 2147483648, at (Some (negsuc 2147483647)))
    ∷ []

unfoldable pub word_cases : List Case
word_cases =
    -- 6 Mar 1934 07:08 Tues -0030: a middle weekday, a short month, half an hour west; no second
    (
      words (done 21 (Some (date 1934 3 6)) (Some 7) (Some 8) None (Some (negsuc 29)) (both (Some Middle) (Some Short)) 31),
      0 ∷ 21 ∷ 1934 ∷ 3 ∷ 6 ∷ 1 ∷ 7 ∷ 1 ∷ 8 ∷ 0 ∷ 0 ∷ 0 ∷ 0 ∷ 0 ∷ 0
          ∷ 31 ∷ 2 ∷ 3 ∷ 1 ∷ 4294967266 ∷ [],
    )
    -- 5 September 1934 0 +0130, the 0 a second: a full month, no weekday
    ∷ (
      words (done 18 (Some (date 1934 9 5)) None None (Some 0) (Some (pos 90)) (both None (Some Full)) 30),
      0 ∷ 18 ∷ 1934 ∷ 9 ∷ 5 ∷ 0 ∷ 0 ∷ 0 ∷ 0 ∷ 1 ∷ 0 ∷ 0 ∷ 0 ∷ 0 ∷ 0 ∷ 30 ∷ 0 ∷ 1 ∷ 1 ∷ 90 ∷ [],
    )
    -- +0000 alone: said, and zero
    ∷ (
      words (done 5 None None None None (Some (pos 0)) (both None None) 0),
      0 ∷ 5 ∷ 0 ∷ 0 ∷ 0 ∷ 0 ∷ 0 ∷ 0 ∷ 0 ∷ 0 ∷ 0 ∷ 0 ∷ 0 ∷ 0 ∷ 0 ∷ 0 ∷ 0 ∷ 0 ∷ 1 ∷ 0 ∷ [],
    )
    -- nothing said, a refusal, two days, two hours
    ∷ (
      words (done 0 None None None None None (both None None) 0),
      0 ∷ 0 ∷ 0 ∷ 0 ∷ 0 ∷ 0 ∷ 0 ∷ 0 ∷ 0 ∷ 0 ∷ 0 ∷ 0 ∷ 0 ∷ 0 ∷ 0 ∷ 0 ∷ 0 ∷ 0 ∷ 0 ∷ 0 ∷ [],
    )
    ∷ (
      words (Err (NoMatch 4)),
      6 ∷ 4 ∷ 0 ∷ 0 ∷ 0 ∷ 0 ∷ 0 ∷ 0 ∷ 0 ∷ 0 ∷ 0 ∷ 0 ∷ 0 ∷ 0 ∷ 0 ∷ 0 ∷ 0 ∷ 0 ∷ 0 ∷ 0 ∷ [],
    )
    ∷ (
      words (Err (OpenDay (date 1 3 5) (date 2 4 6) 36)),
      10 ∷ 1 ∷ 1 ∷ 3 ∷ 5 ∷ 0 ∷ 0 ∷ 0 ∷ 0 ∷ 0 ∷ 0 ∷ 2 ∷ 4 ∷ 6 ∷ 0 ∷ 36 ∷ 0 ∷ 0 ∷ 0 ∷ 0 ∷ [],
    )
    ∷ (
      words (Err (OpenHour 7 19 1)),
      10 ∷ 2 ∷ 0 ∷ 0 ∷ 0 ∷ 0 ∷ 7 ∷ 0 ∷ 0 ∷ 0 ∷ 0 ∷ 0 ∷ 0 ∷ 0 ∷ 19 ∷ 1 ∷ 0 ∷ 0 ∷ 0 ∷ 0 ∷ [],
    )
    ∷ []
