-- What the reader's functions hand each other.
use Rattle.std.specs.Prelude.{◌≡◌, Result, Ok, Err}
use Rattle.agreement.specs.Verdicts.{hour_verdict}
use Rattle.strptime.specs.Answers.{examining, naming, refusal_of, with_hour}
use Rattle.matching.specs.declared.Forms.{Forms}
use Rattle.strptime.specs.declared.ReadRefusal.{ReadRefusal}
use Rattle.strptime.specs.declared.ReadRefusal.TheVariants.{NoMatch, OutOfRange, Contradiction, OverBudget as TooFew}
use Rattle.judge.specs.declared.OverBudget.{OverBudget}
use Rattle.matching.specs.declared.Refused.{Refused}
use Rattle.matching.specs.declared.Refused.TheVariants.{Mismatch, Range, Conflict}
use Rattle.strptime.specs.declared.Reading.{Reading}
use Rattle.matching.specs.declared.State.{State}
use Rattle.strptime.specs.declared.answers.Dated.{Dated}

-- the refusal of a reading by a refused element
abbrev pub refusal_by : Refused → ReadRefusal
refusal_by (Mismatch p) = NoMatch p
refusal_by (Range p) = OutOfRange p
refusal_by (Conflict p) = Contradiction p

-- and by a budget that is too small
abbrev pub over_by : OverBudget → ReadRefusal
over_by o = TooFew o.budget

-- what becomes of a reading once its day is judged: the hour is, or the refusal stands
unfoldable pub with_dated : State → Forms → Result Dated ReadRefusal → Reading
with_dated t fs (Ok d) = naming fs (examining d.examined (with_hour t d.day (hour_verdict t.facts)))
with_dated t fs (Err r) = refusal_of r

-- with whichever forms of names were read, that is the reading r
abbrev pub ComesTo : State → Reading → Result Dated ReadRefusal → Type 0
ComesTo t r d = (fs : Forms) → with_dated t fs d ≡ naming fs r
