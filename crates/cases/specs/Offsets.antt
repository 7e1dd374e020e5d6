-- Zone offsets (RULES 5 and RULES 6.6): what %z writes reads back as the offset, for every offset; that day and hour do not depend on it;
-- and cases of %z, %s, 12 and 2 at place 7, each beside what it must give.
use Prim.Native.Char.{code}
use Rattle.std.specs.Prelude.{ℕ, List, [], ◌∷◌, ◌≡◌, ℤ, pos, negsuc, length, replicate}
use Prim.Native.String.{String}
use Rattle.laws.specs.Bytes.{bytes}
use Rattle.conversions.specs.Pieces.{unstyled}
use Rattle.format.specs.Opening.{conversion_at}
use Rattle.kinds.specs.Kinds.{zone_offset}
use Rattle.agreement.specs.Verdicts.{hour_verdict}
use Rattle.agreement.specs.declared.Facts.{Facts}
use Rattle.judge.specs.Engines.{searched}
use Rattle.judge.specs.declared.Engine.{Engine}
use Rattle.matching.specs.Steps.{noted}
use Rattle.values.specs.Moments.{moment_of}
use Rattle.values.specs.declared.Moment.{Moment}
use Rattle.strftime.specs.Writing.{elements_writing}
use Rattle.strftime.specs.declared.Fields.{Fields}
use Rattle.strptime.specs.Answers.{finished, reading}
use Rattle.demands.specs.Columns.{Writes}
use Rattle.cases.specs.Starred as starred
use Rattle.cases.specs.Starred.{Case, writes, gives}
use Rattle.std.specs.Prelude.{None, Ok, Option, Some}

-- ---- %z

-- what %z writes for fields that are a moment: nothing where the offset is unsaid; else five bytes, by which %z reads that offset
pub record Zoned (t : Fields) : Type 0 where
  pub unsaid : t.offset ≡ None → Writes (bytes "%z") t []
  pub said : (z : ℤ) → t.offset ≡ Some z
      → (x : List ℕ)
      × Writes (bytes "%z") t x
      × (length x ≡ 5)
      × (reading (bytes "%z") x ≡ finished 5 None None None None (Some z))

abbrev pub ZoneRule : Type 0
ZoneRule =
    (t : Fields) (m : Moment) → moment_of t.year t.month t.day t.hour t.minute t.second t.offset ≡ Ok m
    → Zoned t

-- ---- the day and the hour

-- whatever is said of the zone offset, each engine finds and counts the same days, and the verdict on the hour is the same
pub record Ignored (e : Engine) (f : Facts) (n : ℕ) : Type 0 where
  pub day : searched e (noted f zone_offset n) ≡ searched e f
  pub hour : hour_verdict (noted f zone_offset n) ≡ hour_verdict f

-- ---- cases

-- a moment at an offset
unfoldable pub moment_at : ℕ → ℕ → ℕ → ℕ → ℕ → ℕ → Option ℤ → Fields
moment_at y m d h n s o = record { year = y; month = m; day = d; hour = h; minute = n; second = s; offset = o }

-- 1934-03-05 07:08:09 at an offset
unfoldable pub at : Option ℤ → Fields
at o = moment_at 1934 3 5 7 8 9 o

-- what a writing by elements comes to, as `writes` tells it of one by a format
unfoldable pub writes_by : Fields → List ℕ → ℕ → List ℕ
writes_by t es n =
    let w = elements_writing es t (replicate n 35) in
    w.answer.number ∷ w.answer.place ∷ w.buffer

-- the element of a %s whose % is at an offset
unfoldable pub seconds_at : ℕ → ℕ
seconds_at p = conversion_at p unstyled (code "s")

unfoldable pub write_cases : List Case
write_cases =
    (writes (at (Some (pos 90))) "%z" 5, gives 5 "+0130")
    ∷ (writes (at (Some (negsuc 29))) "%H%z|" 8, gives 8 "07-0030|")
    ∷ (writes (at (Some (pos 0))) "%z" 5, gives 5 "+0000")
    ∷ (writes (at (Some (pos 1439))) "%z" 5, gives 5 "+2359")
    ∷ (writes (at (Some (negsuc 1438))) "%z" 5, gives 5 "-2359")
    ∷ (writes (at None) "[%z]" 2, gives 2 "[]")
    -- all else is written as it stands, whatever the offset is
    ∷ (writes (moment_at 1934 3 5 23 50 9 (Some (negsuc 29))) "%F %T" 19, gives 19 "1934-03-05 23:50:09")
    ∷ (writes (moment_at 1934 3 5 0 20 9 (Some (pos 90))) "%F %T" 19, gives 19 "1934-03-05 00:20:09")
    -- the offset is taken off; second 60 counts as the next; more than nine digits, and more than 32 bits hold
    ∷ (writes (moment_at 1970 1 1 0 0 0 (Some (pos 0))) "%s" 1, gives 1 "0")
    ∷ (writes (moment_at 1970 1 1 0 0 0 (Some (pos 90))) "%s" 5, gives 5 "-5400")
    ∷ (writes (moment_at 1970 1 1 0 0 0 (Some (negsuc 29))) "%s" 4, gives 4 "1800")
    ∷ (writes (moment_at 1969 12 31 23 59 59 (Some (pos 0))) "%s" 2, gives 2 "-1")
    ∷ (writes (moment_at 1969 12 31 23 59 60 (Some (pos 0))) "%s" 1, gives 1 "0")
    ∷ (writes (moment_at 2001 9 9 1 46 40 (Some (pos 0))) "%s" 10, gives 10 "1000000000")
    ∷ (writes (moment_at 2001 9 9 1 46 39 (Some (pos 0))) "%s" 9, gives 9 "999999999")
    ∷ (writes (moment_at 1 1 1 0 0 0 (Some (pos 1439))) "%s" 12, gives 12 "-62135683140")
    ∷ (writes (moment_at 2106 2 7 6 28 16 (Some (pos 0))) "%s" 10, gives 10 "4294967296")
    -- 12 at the first %s, after 2 and 3 and before 4
    ∷ (writes (moment_at 1934 13 5 7 8 9 None) "%s" 3, 2 ∷ 2 ∷ bytes "###")
    ∷ (writes (at None) "%d%s%s" 3, 12 ∷ 2 ∷ bytes "###")
    ∷ (writes (at None) "%c %%s %s" 0, 12 ∷ 7 ∷ [])
    ∷ (writes (at None) "%s%Q" 3, 3 ∷ 2 ∷ bytes "###")
    ∷ (writes (at (Some (pos 0))) "%s" 3, 4 ∷ 11 ∷ bytes "###")
    -- so too by elements, %s with its % at 5: 3 by the index of the second, which is none, then 12 by that %
    ∷ (writes_by (at None) (seconds_at 5 ∷ 300 ∷ []) 3, 3 ∷ 1 ∷ bytes "###")
    ∷ (writes_by (at None) (88 ∷ seconds_at 5 ∷ seconds_at 9 ∷ []) 0, 12 ∷ 5 ∷ [])
    ∷ (writes_by (at (Some (pos 0))) (88 ∷ seconds_at 5 ∷ []) 3, 4 ∷ 12 ∷ bytes "###")
    -- 2 at place 7, the last field
    ∷ (writes (at (Some (pos 1440))) "%Y" 4, 2 ∷ 7 ∷ bytes "####")
    ∷ (writes (at (Some (negsuc 1439))) "%Q" 4, 2 ∷ 7 ∷ bytes "####")
    ∷ (writes (moment_at 1934 3 5 7 8 61 (Some (pos 1440))) "%Y" 4, 2 ∷ 6 ∷ bytes "####")
    -- no flag, no width, no E and no O
    ∷ (writes (at (Some (pos 0))) "%5z" 3, 3 ∷ 0 ∷ bytes "###")
    ∷ (writes (at None) "%d%_s" 3, 3 ∷ 2 ∷ bytes "###")
    ∷ (writes (at (Some (pos 0))) "%Ez" 3, 3 ∷ 0 ∷ bytes "###")
    ∷ (writes (at (Some (pos 0))) "%Oz" 3, 3 ∷ 0 ∷ bytes "###")
    ∷ (writes (at (Some (pos 0))) "%Es" 3, 3 ∷ 0 ∷ bytes "###")
    ∷ (writes (at (Some (pos 0))) "%Os" 3, 3 ∷ 0 ∷ bytes "###")
    ∷ []

-- a reading's number, place and zone offset
pub record Answer : Type 0 where
  pub number : ℕ
  pub place : ℕ
  pub offset : Option ℤ

unfoldable pub reads : String → String → Answer
reads s f = let r = reading (bytes f) (bytes s) in record { number = r.number; place = r.place; offset = r.offset }

unfoldable pub done : ℕ → ℤ → Answer
done p z = record { number = 0; place = p; offset = Some z }

unfoldable pub refused : ℕ → ℕ → Answer
refused n p = record { number = n; place = p; offset = None }

unfoldable pub read_cases : List (Answer × Answer)
read_cases =
    (reads "+0130" "%z", done 5 (pos 90))
    ∷ (reads "-0030" "%z", done 5 (negsuc 29))
    ∷ (reads "-0000" "%z", done 5 (pos 0))
    ∷ (reads "-2359" "%z", done 5 (negsuc 1438))
    ∷ (reads "+00000" "%z", done 5 (pos 0))
    ∷ (reads "07:08 +0130" "%H:%M %z", done 11 (pos 90))
    ∷ (reads "-0000+0000" "%z%z", done 10 (pos 0))
    -- 6: no sign, another byte, a blank before it or after it, a digit too few, before any range; 7: hours, minutes; 8: another offset;
    -- each at the sign
    ∷ (reads "0130" "%z", refused 6 0)
    ∷ (reads "Z" "%z", refused 6 0)
    ∷ (reads ",0130" "%z", refused 6 0)
    ∷ (reads " +0130" "%z", refused 6 0)
    ∷ (reads "+ 0130" "%z", refused 6 0)
    ∷ (reads "+01:30" "%z", refused 6 0)
    ∷ (reads "+99" "%z", refused 6 0)
    ∷ (reads "7+130" "%H%z", refused 6 1)
    ∷ (reads "7" "%H%z", refused 6 1)
    ∷ (reads "7+2400" "%H%z", refused 7 1)
    ∷ (reads "7-0060" "%H%z", refused 7 1)
    ∷ (reads "+0130 -0130" "%z %z", refused 8 6)
    -- a refused reading hands out none
    ∷ (reads "+0130 7 PM" "%z %H %p", refused 9 2)
    -- no flag, no width, no E and no O; %s is not read
    ∷ (reads "+0130" "%5z", refused 3 0)
    ∷ (reads "+0130" "%Ez", refused 3 0)
    ∷ (reads "+0130" "%Oz", refused 3 0)
    ∷ (reads "0" "%s", refused 3 0)
    ∷ (reads "" "%%s%s", refused 3 3)
    ∷ []

-- everything here, for the proof that computes
unfoldable pub computes : Unit {0}
unfolding starred.computes moment_at at writes_by seconds_at write_cases reads done refused read_cases
computes = tt
