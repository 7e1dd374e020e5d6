use lib.ListN.{take}
use Rattle.lists.specs.Putting.{Writes}
use Rattle.lists.proofs.putting.Writer.bytes.Given as goal

abbrev pub invariant-loop-b : goal.invariant-loop-b
invariant-loop-b l = Writes (take l.b-index l.bytes) l.initial.self l.self
