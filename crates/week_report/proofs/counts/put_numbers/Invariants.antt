use lib.ListN.{get_or}
use Rattle.lists.specs.Putting.{Writes, each}
use Rattle.week_report.specs.Weeks.{number_line}
use Rattle.week_report.proofs.counts.put_numbers.Given as goal

abbrev pub invariant-loop-i : goal.invariant-loop-i
invariant-loop-i l = Writes (each (λ k. number_line k (get_or l.counts k 0)) l.i) l.initial.w l.w
