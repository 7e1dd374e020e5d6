use Rattle.lists.specs.Putting.{Writes}
use Rattle.refusals.specs.Marks.{marks_to}
use Rattle.refusals.proofs.marks.put_marks.Given as goal

abbrev pub invariant-loop-i : goal.invariant-loop-i
invariant-loop-i l = Writes (marks_to l.extents l.i) l.initial.w l.w
