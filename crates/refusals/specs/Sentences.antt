-- What is said of a text that is refused, by its number.
use Rattle.std.specs.Prelude.{ℕ, ◌+◌, cond, List, [], ◌++◌, eqb, ltb, length}
use Rattle.calendar.specs.declared.Date.{Date}
use Rattle.laws.specs.Bytes.{bytes}
use Rattle.lists.specs.Putting.{date_shown}
use Rattle.matching.specs.declared.extents.Extent.{Extent}
use Rattle.reasons.specs.Reasons.{differing, about}
use Rattle.reasons.specs.declared.About.{About}
use Rattle.reasons.specs.declared.About.TheVariants.{Day as TheDay, Hour as TheHour}
use Rattle.reasons.specs.declared.Part.{Part}
use Rattle.reasons.specs.declared.Part.TheVariants.{Year, Month, Day}
use Rattle.strptime.specs.declared.Reading.{Reading}
use Rattle.text.specs.Digits.{plain}
use Rattle.refusals.specs.Words.{word_list}
use Rattle.std.specs.Prelude.{None, Option, Some}
use Rattle.strptime.specs.declared.Shown.TheVariants.{Days, Hours}
use Rattle.strptime.specs.declared.Shown.{Shown}

-- 3
unfoldable pub bad_conversion : ℕ → List ℕ
bad_conversion p =
    bytes "the format has a conversion at byte "
    ++ (plain p ++ bytes " that is unknown or unfinished, or that has a flag or a width")

-- 6, at an offset of the text or at its end
unfoldable pub mismatch : ℕ → List ℕ → List ℕ
mismatch p s =
    cond (ltb p (length s)) (bytes "the text does not go on as the format wants") (bytes "the text ends before the format does")

-- 9, for the day and for the hour
unfoldable pub noun : About → List ℕ
noun TheDay = bytes "day"
noun TheHour = bytes "hour"

unfoldable pub quarrel : About → List Extent → List ℕ → List ℕ
quarrel a words s = bytes "no " ++ (noun a ++ (bytes " is " ++ (word_list words s ++ bytes " together")))

-- 10, for the day: which part is missing
unfoldable pub part_name : Part → List ℕ
part_name Year = bytes "year"
part_name Month = bytes "month"
part_name Day = bytes "day"

unfoldable pub open_day : Date → Date → List ℕ
open_day a b =
    bytes "more than one day agrees, the earliest "
    ++ (date_shown a ++ (bytes " and " ++ (date_shown b ++ (bytes "; the " ++ (part_name (differing a b) ++ bytes " is missing")))))

-- 10, for the hour: two hours that are 12 apart differ in AM and PM alone
unfoldable pub missing_hour : ℕ → ℕ → List ℕ
missing_hour a b = cond (eqb b (a + 12)) (bytes "AM or PM") (bytes "the hour")

unfoldable pub open_hour : ℕ → ℕ → List ℕ
open_hour a b =
    bytes "more than one hour agrees, the earliest "
    ++ (plain a ++ (bytes " and " ++ (plain b ++ (bytes "; " ++ (missing_hour a b ++ bytes " is missing")))))

unfoldable pub open_sentence : Option Shown → List ℕ
open_sentence None = []
open_sentence (Some (Days a b)) = open_day a b
open_sentence (Some (Hours a b)) = open_hour a b

-- by the number of a reading
unfoldable pub sentence : Reading → List Extent → List ℕ → List ℕ
sentence r words s =
    cond (eqb r.number 1) (bytes "the format has more than 1,024 bytes")
    (cond (eqb r.number 3) (bad_conversion r.place)
    (cond (eqb r.number 5) (bytes "the text has more than 1,024 bytes")
    (cond (eqb r.number 6) (mismatch r.place s)
    (cond (eqb r.number 7) (bytes "this number is outside its range")
    (cond (eqb r.number 8) (bytes "this was said before, differently")
    (cond (eqb r.number 9) (quarrel (about r.place) words s)
    (cond (eqb r.number 10) (open_sentence r.shown) [])))))))
