-- Cases of RULES 8.5, each beside what it must give. A search that finds no day goes through the whole calendar and is not computed here:
-- for a 9 on the day only where the words of each kind stand.
use Rattle.std.specs.Prelude.{ℕ, get_or}
use Prim.Native.String.{String}
use mathlib.Core.List.{List, [], ◌∷◌, flat_map}
use Rattle.format.specs.Opening.{opening}
use Rattle.format.specs.declared.opening.Side.TheVariants.{Reader}
use Rattle.judge.specs.declared.Engine.{Engine}
use Rattle.judge.specs.declared.Engine.TheVariants.{Skipping, Within}
use Rattle.kinds.specs.Kinds.{year, month, day, weekday, hour, hour_of_twelve, half_of_day}
use Rattle.laws.specs.Bytes.{bytes}
use Rattle.matching.specs.Extents.{nowhere, first_said}
use Rattle.reasons.specs.Reasons.{explained_by}
use Rattle.reasons.specs.declared.About.TheVariants.{Day as TheDay, Hour as TheHour}
use Rattle.reasons.specs.declared.Part.TheVariants.{Year, Month, Day}
use Rattle.cases.specs.Starred.{Case}
use Rattle.std.specs.Prelude.{None, Option, Some}
use Rattle.reasons.specs.declared.Reason.TheVariants.{Differ, Hours, Quarrel}
use Rattle.reasons.specs.declared.Reason.{Reason}

-- where kinds are first said by a format: for each its first offset, and the one after its last
unfoldable pub stand : String → String → List ℕ → List ℕ
stand s f ks =
    flat_map (λ k. let x = first_said k (opening Reader (bytes f)).elements (bytes s) 0 in x.from ∷ x.next ∷ []) ks

-- a reason by a number: 0 none, 1 and 2 a quarrel on the day and on the hour, 3, 4 and 5 the part in which two days differ, 6 two hours
unfoldable pub numbered : Option Reason → List ℕ
numbered None = 0 ∷ []
numbered (Some (Quarrel TheDay)) = 1 ∷ []
numbered (Some (Quarrel TheHour)) = 2 ∷ []
numbered (Some (Differ Year)) = 3 ∷ []
numbered (Some (Differ Month)) = 4 ∷ []
numbered (Some (Differ Day)) = 5 ∷ []
numbered (Some (Hours a b)) = 6 ∷ a ∷ b ∷ []

-- a reading's reason, and with the words of the kinds of the hour
unfoldable pub why : Engine → String → String → List ℕ
why e s f = numbered (explained_by e (bytes f) (bytes s)).reason

unfoldable pub hour_words : String → String → List ℕ
hour_words s f =
    flat_map (λ k. let x = get_or (explained_by Skipping (bytes f) (bytes s)).words k nowhere in x.from ∷ x.next ∷ [])
    (hour ∷ hour_of_twelve ∷ half_of_day ∷ [])

unfoldable pub reason_cases : List Case
reason_cases =
    -- from the first digit or letter, after white space, to the byte after the last
    (stand "Tue 5 Mar 1934" "%a %d %b %Y" (year ∷ month ∷ day ∷ weekday ∷ []), 10 ∷ 14 ∷ 6 ∷ 9 ∷ 4 ∷ 5 ∷ 0 ∷ 3 ∷ [])
    ∷ (stand "  Tues  05\tMar1934" " %a%d %b%Y" (month ∷ day ∷ weekday ∷ []), 11 ∷ 14 ∷ 8 ∷ 10 ∷ 2 ∷ 6 ∷ [])
    -- where it was first said, in a composite too
    ∷ (stand "Tue 2 5 Mar 1934" "%a %u %d %b %Y" (weekday ∷ []), 0 ∷ 3 ∷ [])
    ∷ (stand "2 Tue 5 Mar 1934" "%u %a %d %b %Y" (weekday ∷ []), 0 ∷ 1 ∷ [])
    ∷ (stand "03/05/34 3" "%D %m" (month ∷ day ∷ []), 0 ∷ 2 ∷ 3 ∷ 5 ∷ [])
    -- no hour
    ∷ (why Skipping "7 PM" "%H %p", 2 ∷ [])
    ∷ (hour_words "7 PM" "%H %p", 0 ∷ 1 ∷ 0 ∷ 0 ∷ 2 ∷ 4 ∷ [])
    ∷ (hour_words "07 8 AM" "%H %I %p", 0 ∷ 2 ∷ 3 ∷ 4 ∷ 0 ∷ 0 ∷ [])
    ∷ (hour_words "PM 8 7" "%p %I %k", 5 ∷ 6 ∷ 0 ∷ 0 ∷ 0 ∷ 2 ∷ [])
    -- open: the part, or the hours
    ∷ (why Skipping "5 mar" "%d %b", 3 ∷ [])
    ∷ (why Skipping "5 1" "%d %Y", 4 ∷ [])
    ∷ (why Skipping "Mar 1" "%b %Y", 5 ∷ [])
    ∷ (why Skipping "Mon" "%a", 5 ∷ [])
    ∷ (why Skipping "07:08" "%I:%M", 6 ∷ 7 ∷ 19 ∷ [])
    -- none with any other number: 0, 6, 7, 8 and 11
    ∷ (why Skipping "7" "%H", 0 ∷ [])
    ∷ (why Skipping "x" "%H", 0 ∷ [])
    ∷ (why Skipping "24" "%H", 0 ∷ [])
    ∷ (why Skipping "7 8" "%H %k", 0 ∷ [])
    ∷ (why (Within 0) "Tues" "%a", 0 ∷ [])
    ∷ []

-- everything here, for the proof that computes
unfoldable pub computes : Unit {0}
unfolding stand numbered why hour_words reason_cases
computes = tt
