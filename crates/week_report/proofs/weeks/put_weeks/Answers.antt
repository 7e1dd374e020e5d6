-- `week_report::weeks::put_weeks` meets its contract. Assumes nothing.
use mathlib.Core.Path.{◌≡◌}
use native.Mathlib.Omega.{arith}
use lib.ListN.{length}
use Rattle.lists.proofs.Writing.{each_start, each_next}
use Rattle.week_report.specs.Private.{table_shown}
use Rattle.week_report.proofs.weeks.put_weeks.Goals as goal

pub loop-word-init : goal.loop-word-init
loop-word-init c = each_start _ c.args.w.now

pub put_week-requires : goal.put_week-requires
put_week-requires c = c.requires c.loop-word.word-index

pub loop-word-preserved : goal.loop-word-preserved
loop-word-preserved c = each_next _ c.loop-word.word-index c.loop-word.invariant c.put_week.ensures

pub returns : goal.returns
unfolding table_shown
returns c =
    let e : c.loop-word.word-index ≡ length c.args.table.now = omega arith in
    rw e at c.loop-word.invariant
