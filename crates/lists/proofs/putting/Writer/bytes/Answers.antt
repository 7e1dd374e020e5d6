-- `lists::putting::Writer::bytes` meets its contract. Assumes nothing.
use native.Mathlib.Numerals.{add-one}
use native.Mathlib.Omega.{arith}
use lib.Seq.{take-suc, take_all}
use Rattle.lists.proofs.Writing.{nothing, then}
use Rattle.lists.proofs.putting.Writer.bytes.Goals as goal

pub loop-b-init : goal.loop-b-init
loop-b-init c = nothing c.args.self.now

pub loop-b-preserved : goal.loop-b-preserved
loop-b-preserved c =
    let l = c.loop-b in
    rw (add-one l.b-index, take-suc c.args.bytes.now l.b-index 0 (omega arith)) (then l.invariant c.byte.ensures)

pub returns : goal.returns
returns c = rw (take_all c.loop-b.b-index c.args.bytes.now (omega arith)) at c.loop-b.invariant
