use mathlib.Core.Path.{◌≡◌}
use Rattle.refusals.specs.Blocks.{line_number}
use Rattle.refusals.proofs.line_number.Given as goal

abbrev pub invariant-loop-b : goal.invariant-loop-b
invariant-loop-b l = l.number ≡ line_number l.before l.b-index
