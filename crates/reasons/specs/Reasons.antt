-- Why a reading has the number 9 or 10 (RULES 8.5).
use Rattle.std.specs.Prelude.{ℕ, cond, not, List, [], map, eqb}
use Rattle.calendar.specs.declared.Date.{Date}
use Rattle.format.specs.Opening.{opening, opened}
use Rattle.format.specs.declared.opening.Side.TheVariants.{Reader}
use Rattle.agreement.specs.declared.Facts.{Facts}
use Rattle.judge.specs.declared.Engine.{Engine}
use Rattle.kinds.specs.Kinds.{kinds}
use Rattle.laws.specs.Lists.{range}
use Rattle.matching.specs.Extents.{nowhere, first_said}
use Rattle.matching.specs.Steps.{start, no_forms, read_all}
use Rattle.matching.specs.declared.extents.Extent.{Extent}
use Rattle.reasons.specs.Quarrels.{is_named}
use Rattle.reasons.specs.declared.About.{About}
use Rattle.reasons.specs.declared.About.TheVariants.{Day as TheDay, Hour as TheHour}
use Rattle.reasons.specs.declared.Explained.{Explained}
use Rattle.reasons.specs.declared.Part.{Part}
use Rattle.reasons.specs.declared.Part.TheVariants.{Year, Month, Day}
use Rattle.strptime.specs.Answers.{reading_by, elements_reading_by}
use Rattle.strptime.specs.declared.Reading.{Reading}
use Rattle.std.specs.Prelude.{Err, None, Ok, Option, Result, Some}
use Rattle.format.specs.declared.opening.Unopened.{Unopened}
use Rattle.reasons.specs.declared.Reason.TheVariants.{Differ, Hours, Quarrel}
use Rattle.reasons.specs.declared.Reason.{Reason}
use Rattle.strptime.specs.declared.Shown.TheVariants.{Days, Hours as TwoHours}
use Rattle.strptime.specs.declared.Shown.{Shown}

-- the first of year, month and day in which two dates differ
unfoldable pub differing : Date → Date → Part
differing a b = cond (not (eqb a.year b.year)) Year (cond (not (eqb a.month b.month)) Month Day)

-- 10: in what the two days differ, or the two hours
unfoldable pub open_reason : Option Shown → Option Reason
open_reason None = None
open_reason (Some (Days a b)) = Some (Differ (differing a b))
open_reason (Some (TwoHours a b)) = Some (Hours a b)

-- 9 has place 1 for the day, and 2 for the hour
unfoldable pub about : ℕ → About
about place = cond (eqb place 1) TheDay TheHour

-- the reason of a reading: with every other number there is none
unfoldable pub reason_of : Reading → Option Reason
reason_of r =
    cond (eqb r.number 9) (Some (Quarrel (about r.place)))
    (cond (eqb r.number 10) (open_reason r.shown) None)

-- the facts that a text says by elements
unfoldable pub facts_in : List ℕ → List ℕ → Facts
facts_in es s = (read_all es s start no_forms).state.facts

-- where each kind that is named was first said; the others stand nowhere
unfoldable pub quarrel_words : About → List ℕ → List ℕ → List Extent
quarrel_words a es s = map (λ k. cond (is_named a (facts_in es s) k) (first_said k es s 0) nowhere) (range 0 kinds)

unfoldable pub no_words : List Extent
no_words = map (λ k. nowhere) (range 0 kinds)

unfoldable pub words_for : Option Reason → List ℕ → List ℕ → List Extent
words_for None es s = no_words
words_for (Some (Quarrel a)) es s = quarrel_words a es s
words_for (Some (Differ p)) es s = no_words
words_for (Some (Hours a b)) es s = no_words

-- why a text that was read by elements is answered so
unfoldable pub explained : Reading → List ℕ → List ℕ → Explained
explained r es s = record { reason = reason_of r; words = words_for (reason_of r) es s }

-- the elements of a format; none where it is refused
unfoldable pub format_elements : List ℕ → List ℕ
format_elements f = go (opened Reader f)
  where
    go : Result ℕ Unopened → List ℕ
    go (Ok n) = (opening Reader f).elements
    go (Err why) = []

-- why a text is answered as it is: by a format, and by the elements of one that was opened before, with an engine
abbrev pub explained_by : Engine → List ℕ → List ℕ → Explained
explained_by e f s = explained (reading_by e f s) (format_elements f) s

abbrev pub elements_explained_by : Engine → List ℕ → List ℕ → Explained
elements_explained_by e es s = explained (elements_reading_by e es s) es s

-- everything here, for proofs that compute
unfoldable pub computes : Unit {0}
unfolding differing open_reason about reason_of facts_in quarrel_words no_words words_for explained format_elements
computes = tt
