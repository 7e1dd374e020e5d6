-- `week_report::counts::count_number` meets its contract. Assumes nothing.
use Rattle.week_report.proofs.Tallying.{at_most_sum, one_more}
use native.Mathlib.Omega.{arith}
use Rattle.week_report.proofs.counts.count_number.Goals as goal

pub overflow_add-counts : goal.overflow_add-counts
overflow_add-counts c =
    let s = c in
    record { fits = omega (arith, s.requires.1, at_most_sum s.args.counts.now s.args.number) }

pub returns : goal.returns
returns c =
    let s = c in
    one_more s.args.counts.now s.args.number
