-- Cases of RULES 8.4 by each engine, each beside what it must give. A search through the whole calendar is not computed here.
use Rattle.std.specs.Prelude.{ℕ, List, [], ◌∷◌}
use Prim.Native.String.{String}
use Rattle.laws.specs.Bytes.{bytes}
use Rattle.judge.specs.declared.Engine.{Engine}
use Rattle.judge.specs.declared.Engine.TheVariants.{Skipping, Plain, Within}
use Rattle.strptime.specs.Answers.{reading_by}
use Rattle.cases.specs.Starred.{Case, shown}

-- what a reading by an engine comes to: the number, the place, the days examined, and what is shown
unfoldable pub reads_by : Engine → String → String → List ℕ
reads_by e s f = let r = reading_by e (bytes f) (bytes s) in r.number ∷ r.place ∷ r.examined ∷ shown r.shown

unfoldable pub examined_cases : List Case
examined_cases =
    (reads_by Plain "5 Mar" "%d %b", 10 ∷ 1 ∷ 429 ∷ 1 ∷ 3 ∷ 5 ∷ 2 ∷ 3 ∷ 5 ∷ [])
    ∷ (reads_by Skipping "5 Mar" "%d %b", 10 ∷ 1 ∷ 36 ∷ 1 ∷ 3 ∷ 5 ∷ 2 ∷ 3 ∷ 5 ∷ [])
    ∷ (reads_by (Within 428) "5 Mar" "%d %b", 11 ∷ 428 ∷ 428 ∷ [])
    ∷ (reads_by (Within 429) "5 Mar" "%d %b", 10 ∷ 1 ∷ 429 ∷ 1 ∷ 3 ∷ 5 ∷ 2 ∷ 3 ∷ 5 ∷ [])
    ∷ (reads_by (Within 0) "5 Mar" "%d %b", 11 ∷ 0 ∷ 0 ∷ [])
    -- of kinds 5 to 12 none narrows the months that are counted
    ∷ (reads_by Skipping "40" "%j", 10 ∷ 1 ∷ 405 ∷ 1 ∷ 2 ∷ 9 ∷ 2 ∷ 2 ∷ 9 ∷ [])
    ∷ (reads_by Skipping "Mon" "%a", 10 ∷ 1 ∷ 8 ∷ 1 ∷ 1 ∷ 1 ∷ 1 ∷ 1 ∷ 8 ∷ [])
    ∷ (reads_by Skipping "2 1" "%G %V", 10 ∷ 1 ∷ 366 ∷ 1 ∷ 12 ∷ 31 ∷ 2 ∷ 1 ∷ 1 ∷ [])
    -- kinds 1, 3 and 4 do (kind 2 does from the year 100 on, which is too far to compute)
    ∷ (reads_by Skipping "2" "%Y", 10 ∷ 1 ∷ 2 ∷ 2 ∷ 1 ∷ 1 ∷ 2 ∷ 1 ∷ 2 ∷ [])
    ∷ (reads_by Skipping "2" "%y", 10 ∷ 1 ∷ 2 ∷ 2 ∷ 1 ∷ 1 ∷ 2 ∷ 1 ∷ 2 ∷ [])
    ∷ (reads_by Skipping "3" "%m", 10 ∷ 1 ∷ 2 ∷ 1 ∷ 3 ∷ 1 ∷ 1 ∷ 3 ∷ 2 ∷ [])
    -- no fact bears on the day, or a refusal came before: with the budget 0 too
    ∷ (reads_by (Within 0) "07:08" "%I:%M", 10 ∷ 2 ∷ 0 ∷ 7 ∷ 19 ∷ [])
    ∷ (reads_by (Within 0) "5 6" "%d %e", 8 ∷ 2 ∷ 0 ∷ [])
    ∷ (reads_by Plain "07" "%M", 0 ∷ 2 ∷ 0 ∷ [])
    -- 11 stands before the hour, which is open
    ∷ (reads_by (Within 0) "1 07" "%d %I", 11 ∷ 0 ∷ 0 ∷ [])
    ∷ []

-- everything here, for the proof that computes
unfoldable pub computes : Unit {0}
unfolding reads_by examined_cases
computes = tt
