use Prim.Native.Nat.{◌-◌}
use lib.ListN.{length}
use Rattle.lists.proofs.Listing.{Listing}
use Rattle.report.specs.Report.{lines_by}
use Rattle.report.proofs.next_part.Given as goal

abbrev pub invariant-loop-next : goal.invariant-loop-next
invariant-loop-next l =
    Listing (lines_by l.opened l.elements l.input l.from) l.initial.w l.w (lines_by l.opened l.elements l.input l.next) l.from l.next

abbrev pub decreases-loop-next : goal.decreases-loop-next
decreases-loop-next l = length l.input - l.next
