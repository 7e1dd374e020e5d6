use Rattle.strftime.proofs.Loops.{Putting}
use Rattle.strftime.proofs.putting.put_elements.Given as goal

abbrev pub invariant-loop-e : goal.invariant-loop-e
invariant-loop-e l = Putting l.valid.moment l.elements l.initial.out l.out l.at l.e-index
