-- `refusals::shown::put_shown` meets its contract. Assumes nothing.
use native.Mathlib.Omega.{arith}
use lib.Seq.{take_all}
use Rattle.lists.proofs.Writing.{nothing, mapped}
use Rattle.refusals.specs.Shown.{shown_byte, shown}
use Rattle.refusals.proofs.shown.put_shown.Goals as goal

pub loop-b-init : goal.loop-b-init
loop-b-init c = nothing c.args.w.now

pub loop-b-preserved : goal.loop-b-preserved
loop-b-preserved c =
    let l = c.loop-b in
    mapped shown_byte c.args.text.now l.b-index (omega arith) l.invariant (rw c.shown_byte.ensures at c.byte.ensures)

pub returns : goal.returns
unfolding shown
returns c = rw (take_all c.loop-b.b-index c.args.text.now (omega arith)) at c.loop-b.invariant
