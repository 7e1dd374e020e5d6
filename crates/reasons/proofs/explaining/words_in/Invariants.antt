use Rattle.reasons.proofs.Words.{Filled}
use Rattle.reasons.proofs.explaining.words_in.Given as goal

abbrev pub invariant-loop-kind : goal.invariant-loop-kind
invariant-loop-kind l = Filled l.fn.about l.left l.elements l.s l.words l.kind
