-- `strptime::answers::read_short` meets its contract. Assumes nothing.
use mathlib.Core.Path.{◌∙◌}
use native.Mathlib.Omega.{arith}
use Rattle.strptime.specs.Answers.{refusal_of, reading_of}
use Rattle.strptime.proofs.Opens.{text_long, text_short}
use Rattle.strptime.proofs.answers.read_short.Goals as goal

pub returns-then-text-gt-LONGEST : goal.returns-then-text-gt-LONGEST
unfolding reading_of refusal_of
returns-then-text-gt-LONGEST c = text_long _ _ (omega arith)

pub returns : goal.returns
returns c = c.read_by.ensures ∙ text_short _ _ (omega arith)
