use lib.ListN.{get_or}
use Rattle.lists.specs.Putting.{Writes, each}
use Rattle.week_report.specs.Private.{tally_of}
use Rattle.week_report.specs.Weeks.{week_line}
use Rattle.week_report.proofs.weeks.put_weeks.Given as goal

abbrev pub invariant-loop-word : goal.invariant-loop-word
invariant-loop-word l = Writes (each (λ j. week_line (tally_of (get_or l.table j 0))) l.word-index) l.initial.w l.w
