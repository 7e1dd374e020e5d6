-- `week_report::counts::put_numbers` meets its contract. Assumes nothing.
use mathlib.Core.Path.{◌≡◌}
use native.Mathlib.Omega.{arith}
use lib.ListN.{length}
use Rattle.lists.proofs.Writing.{each_start, each_next}
use Rattle.week_report.specs.Private.{numbers_shown}
use Rattle.week_report.proofs.counts.put_numbers.Goals as goal

pub loop-i-init : goal.loop-i-init
loop-i-init c = each_start _ c.args.w.now

pub loop-i-preserved : goal.loop-i-preserved
loop-i-preserved c = each_next _ c.loop-i.i c.loop-i.invariant c.put_number.ensures

pub returns : goal.returns
unfolding numbers_shown
returns c =
    let e : c.loop-i.i ≡ length c.args.counts.now = omega arith in
    rw e at c.loop-i.invariant
