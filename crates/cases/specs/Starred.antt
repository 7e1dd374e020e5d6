-- The cases with * of RULES 5 and RULES 8, each beside what it must give.
use Rattle.std.specs.Prelude.{ℕ, List, [], ◌∷◌, ◌++◌, replicate}
use Prim.Native.String.{String}
use Rattle.laws.specs.Bytes.{bytes}
use Rattle.calendar.specs.declared.Date.{Date}
use Rattle.strftime.specs.Writing.{writing}
use Rattle.strftime.specs.declared.Fields.{Fields}
use Rattle.strptime.specs.Answers.{reading}
use Rattle.std.specs.Prelude.{None, Option, Some}
use Rattle.strptime.specs.declared.Shown.TheVariants.{Days, Hours}
use Rattle.strptime.specs.declared.Shown.{Shown}

-- a moment, without a zone offset
unfoldable pub moment : ℕ → ℕ → ℕ → ℕ → ℕ → ℕ → Fields
moment y m d h n s = record { year = y; month = m; day = d; hour = h; minute = n; second = s; offset = None }

-- a date at midnight
unfoldable pub midnight : ℕ → ℕ → ℕ → Fields
midnight y m d = moment y m d 0 0 0

-- what a writing comes to in a buffer of n bytes, each # before: the number, the place, and the buffer
unfoldable pub writes : Fields → String → ℕ → List ℕ
writes t f n =
    let w = writing (bytes f) t (replicate n 35) in
    w.answer.number ∷ w.answer.place ∷ w.buffer

-- a date's fields, and what is shown where two or more agree
unfoldable pub fields : Date → List ℕ
fields t = t.year ∷ t.month ∷ t.day ∷ []

unfoldable pub shown : Option Shown → List ℕ
shown None = []
shown (Some (Days a b)) = fields a ++ fields b
shown (Some (Hours a b)) = a ∷ b ∷ []

-- what a reading comes to: the number, the place, and what is shown
unfoldable pub reads : String → String → List ℕ
reads s f = let r = reading (bytes f) (bytes s) in r.number ∷ r.place ∷ shown r.shown

-- a case: what is done, and what it must give
abbrev pub Case : Type 0
Case = List ℕ × List ℕ

-- 0, the bytes written, and the text
unfoldable pub gives : ℕ → String → List ℕ
gives n s = 0 ∷ n ∷ bytes s

unfoldable pub starred : List Case
starred =
    (writes (moment 1934 3 5 7 8 9) "%c" 24, gives 24 "Mon Mar  5 07:08:09 1934")
    ∷ (writes (moment 1934 3 5 7 8 9) "%c" 23, 4 ∷ 24 ∷ bytes "#######################")
    ∷ (writes (moment 1934 3 5 7 8 9) "%j" 3, gives 3 "064")
    ∷ (writes (moment 1934 3 5 7 8 9) "%U" 2, gives 2 "09")
    ∷ (writes (moment 1934 3 5 7 8 9) "%W" 2, gives 2 "10")
    ∷ (writes (moment 1934 3 5 7 8 9) "%G-%V" 7, gives 7 "1934-10")
    ∷ (writes (midnight 2010 1 1) "%G %V" 7, gives 7 "2009 53")
    ∷ (writes (midnight 2010 1 4) "%G %V" 7, gives 7 "2010 01")
    ∷ (writes (midnight 2011 1 2) "%G %V" 7, gives 7 "2010 52")
    ∷ (writes (midnight 2017 1 1) "%G %V" 7, gives 7 "2016 52")
    ∷ (writes (midnight 2000 2 29) "%A" 7, gives 7 "Tuesday")
    ∷ (writes (midnight 1900 2 29) "%A" 7, 2 ∷ 3 ∷ bytes "#######")
    ∷ (writes (midnight 1934 11 5) "%5m" 5, gives 5 "00011")
    ∷ (writes (midnight 1934 11 5) "%_5m" 5, gives 5 "   11")
    ∷ (reads "5 mar" "%d %b", 10 ∷ 1 ∷ 1 ∷ 3 ∷ 5 ∷ 2 ∷ 3 ∷ 5 ∷ [])
    ∷ (reads "07:08" "%I:%M", 10 ∷ 2 ∷ 7 ∷ 19 ∷ [])
    ∷ []

-- everything here, for the proof that computes
unfoldable pub computes : Unit {0}
unfolding moment midnight writes fields shown reads gives starred
computes = tt
