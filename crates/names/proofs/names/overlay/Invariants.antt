use mathlib.Core.Path.{◌≡◌}
use lib.ListN.{drop}
use lib.Seq.{sets}
use Rattle.names.specs.Case.{cased}
use Rattle.names.proofs.names.overlay.Given as goal

abbrev pub invariant-loop-i : goal.invariant-loop-i
invariant-loop-i l = sets l.out l.i (drop l.i (cased l.case l.name)) ≡ sets l.initial.out 0 (cased l.case l.name)
