-- `strftime::measuring::measure` meets its contract. The invariant: n bytes are what the elements passed write.
use native.Mathlib.Omega.{arith}
use Rattle.strftime.proofs.Lengths.{text_any}
use Rattle.strftime.proofs.Loops.{measured_next, all_measured}
use Rattle.strftime.proofs.measuring.measure.Goals as goal

pub overflow_add-n : goal.overflow_add-n
overflow_add-n c =
    let l = measured_next c.loop-e.invariant (omega arith) c.element_length-n.ensures in
    omega (arith, l.count, text_any c.args.valid.moment c.args.valid.valid c.args.elements.now, c.requires)

pub loop-e-preserved : goal.loop-e-preserved
loop-e-preserved c = measured_next c.loop-e.invariant (omega arith) c.element_length-n.ensures

pub returns : goal.returns
returns c = all_measured c.loop-e.invariant (omega arith)
