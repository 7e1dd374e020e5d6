use Rattle.strftime.proofs.Loops.{Measured}
use Rattle.strftime.proofs.measuring.measure.Given as goal

abbrev pub invariant-loop-e : goal.invariant-loop-e
invariant-loop-e l = Measured l.valid.moment l.elements l.n l.e-index
