-- `strptime::answers::bad_conversion` meets its contract. Assumes nothing.
use native.Mathlib.Omega.{arith}
use Rattle.strptime.specs.Answers.{refused, refusal_of, reading_of}
use Rattle.strptime.proofs.Opens.{text_long, text_short}
use Rattle.strptime.proofs.answers.bad_conversion.Goals as goal

pub returns-then-text-le-LONGEST : goal.returns-then-text-le-LONGEST
unfolding reading_of refusal_of refused
returns-then-text-le-LONGEST c = text_short _ _ (omega arith)

pub returns : goal.returns
unfolding reading_of refusal_of
returns c = text_long _ _ (omega arith)
