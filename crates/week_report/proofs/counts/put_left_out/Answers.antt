-- `week_report::counts::put_left_out` meets its contract. Assumes nothing.
use Rattle.lists.proofs.Writing.{then}
use Rattle.week_report.specs.Private.{left_shown}
use Rattle.week_report.proofs.Tallying.{sum_is}
use Rattle.week_report.proofs.counts.put_left_out.Goals as goal

pub sum_of-requires : goal.sum_of-requires
sum_of-requires c = rw (sum_is c.args.counts.now) at c.requires.1

pub returns : goal.returns
unfolding left_shown
returns c = then (rw (c.sum_of.ensures, ← sum_is c.args.counts.now) at c.put_total.ensures) c.put_numbers.ensures
