-- Cases of RULES 9.2, each beside what it must write. The search of a day that does not agree goes through the whole calendar and is not
-- computed here: the words of a 9 for the day are given.
use Rattle.std.specs.Prelude.{ℕ, List, [], ◌∷◌, ◌++◌, replicate}
use Prim.Native.String.{String}
use Rattle.laws.specs.Bytes.{bytes}
use Rattle.matching.specs.Extents.{extent, nowhere}
use Rattle.matching.specs.declared.extents.Extent.{Extent}
use Rattle.strptime.specs.Answers.{refused}
use Rattle.refusals.specs.Blocks.{block, refusals_of}

-- a case: what is done, and what it must give
abbrev pub Case : Type 0
Case = List ℕ × List ℕ

-- what is written for a list, and for a text on line 3 that is refused by a number at a place, with these words of kinds 1, 2, ..
unfoldable pub lists : String → List ℕ
lists s = refusals_of (bytes s)

unfoldable pub refuses : ℕ → ℕ → List Extent → String → List ℕ
refuses n p words s = block 3 (refused n p) (nowhere ∷ words) (bytes s)

unfoldable pub refusal_cases : List Case
refusal_cases =
    -- no day: the words in the order of the text, and not of their kinds
    (
      refuses 9 1 (extent 10 14 ∷ nowhere ∷ nowhere ∷ extent 6 9 ∷ extent 4 5 ∷ nowhere ∷ extent 0 3 ∷ []) "Tue 5 Mar 1934",
      bytes "Tue 5 Mar 1934\n^^^ ^ ^^^ ^^^^\nline 3: no day is Tue, 5, Mar and 1934 together\n\n",
    )
    -- numbers of each kind
    ∷ (
      refuses 9 1
          (extent 0 1 ∷ extent 1 2 ∷ extent 2 3 ∷ extent 3 4 ∷ extent 4 5 ∷ extent 5 6
          ∷ extent 6 7 ∷ extent 7 8 ∷ extent 8 9 ∷ extent 9 10 ∷ extent 10 11 ∷ extent 11 12 ∷ [])
          "123456789123",
      bytes "123456789123\n^^^^^^^^^^^^\nline 3: no day is 1, century 2, year in century 3, month 4, 5, day of year 6, weekday 7, "
          ++ bytes "Sunday week 8, Monday week 9, ISO year 1, ISO year in century 2 and ISO week 3 together\n\n",
    )
    -- nothing for a text that is read; no hour, 7, 6, and 6 at the end
    ∷ (
      lists "%H:%M %p %I\n7:8 am 7\n7:08 PM 7\n7:08 AM 8\n7:60 am 7\n7:8 am 13\n7.8 am 7\n7:8 ",
      bytes "7:08 PM 7\n^    ^^\nline 3: no hour is hour 7 and PM together\n\n"
          ++ bytes "7:08 AM 8\n^       ^\nline 4: no hour is hour 7 and hour of twelve 8 together\n\n"
          ++ bytes "7:60 am 7\n  ^\nline 5: this number is outside its range\n\n"
          ++ bytes "7:8 am 13\n       ^\nline 6: this number is outside its range\n\n"
          ++ bytes "7.8 am 7\n ^\nline 7: the text does not go on as the format wants\n\n"
          ++ bytes "7:8 \n    ^\nline 8: the text ends before the format does\n\n",
    )
    ∷ (lists "%k %H\n7 8", bytes "7 8\n  ^\nline 2: this was said before, differently\n\n")
    -- what is missing
    ∷ (
      lists "%d %b\n5 mar\n",
      bytes "5 mar\nline 2: more than one day agrees, the earliest 0001-03-05 and 0002-03-05; the year is missing\n\n",
    )
    ∷ (
      lists "%d %Y\n5 1",
      bytes "5 1\nline 2: more than one day agrees, the earliest 0001-01-05 and 0001-02-05; the month is missing\n\n",
    )
    ∷ (
      lists "%b %Y\nMar 1",
      bytes "Mar 1\nline 2: more than one day agrees, the earliest 0001-03-01 and 0001-03-02; the day is missing\n\n",
    )
    ∷ (
      lists "%I\n07\n12",
      bytes "07\nline 2: more than one hour agrees, the earliest 7 and 19; AM or PM is missing\n\n"
          ++ bytes "12\nline 3: more than one hour agrees, the earliest 0 and 12; AM or PM is missing\n\n",
    )
    ∷ (lists "%p\nPM", bytes "PM\nline 2: more than one hour agrees, the earliest 12 and 13; the hour is missing\n\n")
    -- the format, and what is too long
    ∷ (
      lists "at %Q\n7\n\n",
      bytes "7\nline 2: the format has a conversion at byte 3 that is unknown or unfinished, or that has a flag or a width\n\n"
          ++ bytes "\nline 3: the format has a conversion at byte 3 that is unknown or unfinished, or that has a flag or a width\n\n",
    )
    ∷ (refuses 1 0 [] "7", bytes "7\nline 3: the format has more than 1,024 bytes\n\n")
    ∷ (refuses 5 0 [] "7", bytes "7\nline 3: the text has more than 1,024 bytes\n\n")
    ∷ (lists "", [])
    ∷ (lists "%Q\n", [])
    ∷ (lists "%n\n\n7", [])
    ∷ (refusals_of (replicate 32769 10), bytes "too long\n")
    -- white space is a blank, and what cannot be shown is ?
    ∷ (
      refusals_of (bytes "%H\n" ++ (9 ∷ 13 ∷ 33 ∷ 126 ∷ 127 ∷ 128 ∷ 0 ∷ 31 ∷ 32 ∷ 255 ∷ [])),
      bytes "  !~???? ?\n  ^\nline 2: the text does not go on as the format wants\n\n",
    )
    ∷ []

-- everything here, for the proof that computes
unfoldable pub computes : Unit {0}
unfolding lists refuses refusal_cases
computes = tt
