use mathlib.Core.List.{map}
use lib.ListN.{take}
use Rattle.lists.specs.Putting.{Writes}
use Rattle.refusals.specs.Shown.{shown_byte}
use Rattle.refusals.proofs.shown.put_shown.Given as goal

abbrev pub invariant-loop-b : goal.invariant-loop-b
invariant-loop-b l = Writes (map shown_byte (take l.b-index l.text)) l.initial.w l.w
