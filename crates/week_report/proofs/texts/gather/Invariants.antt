use Rattle.week_report.proofs.Gathering.{Gathering}
use Rattle.lists.specs.Answers.{opened_reading}
use lib.ListN.{length}
use Prim.Native.Nat.{◌-◌}
use Rattle.week_report.proofs.texts.gather.Given as goal

abbrev pub invariant-loop-next : goal.invariant-loop-next
invariant-loop-next l =
    Gathering (opened_reading l.opened l.elements) l.input l.from l.initial.words l.initial.counts l.words l.counts l.n l.next

abbrev pub decreases-loop-next : goal.decreases-loop-next
decreases-loop-next l = length l.input - l.next
