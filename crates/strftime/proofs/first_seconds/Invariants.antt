use mathlib.Core.Path.{◌≡◌}
use lib.ListN.{drop}
use Rattle.strftime.specs.Writing.{first_seconds}
use Rattle.strftime.proofs.first_seconds.Given as goal

abbrev pub invariant-loop-e : goal.invariant-loop-e
invariant-loop-e l = first_seconds (drop l.e-index l.elements) ≡ first_seconds l.elements
