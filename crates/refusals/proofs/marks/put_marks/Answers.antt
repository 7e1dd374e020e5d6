-- `refusals::marks::put_marks` meets its contract. Assumes nothing.
use mathlib.Core.Path.{◌≡◌}
use native.Mathlib.Omega.{arith}
use Rattle.lists.proofs.Writing.{each_start, each_next}
use Rattle.refusals.proofs.marks.put_marks.Goals as goal

pub loop-i-init : goal.loop-i-init
loop-i-init c = each_start _ c.args.w.now

pub loop-i-preserved : goal.loop-i-preserved
loop-i-preserved c = each_next _ c.loop-i.i c.loop-i.invariant (rw c.mark_at.ensures at c.byte.ensures)

pub returns : goal.returns
returns c =
    let e : c.loop-i.i ≡ c.args.last = omega arith in
    rw e at c.loop-i.invariant
