-- `refusals::line_number` meets its contract. Assumes nothing.
use native.Mathlib.Omega.{arith}
use mathlib.Core.Path.{sym, ◌∙◌}
use lib.ListN.{take, length-take}
use Rattle.refusals.proofs.Numbering.{first_number, number_most, after_newline, after_other, number_before}
use Rattle.refusals.proofs.line_number.Goals as goal
use Rattle.refusals.proofs.line_number.Goals.{then-b-eq10, else-b-eq10}

pub loop-b-init : goal.loop-b-init
loop-b-init c = sym (first_number _)

pub overflow_add-number : goal.overflow_add-number
overflow_add-number c =
    let l = c.loop-b in
    let s = take c.min.result c.args.input.now in
    record { fits = omega (arith, l.invariant, (number_most s l.b-index).0, length-take c.min.result c.args.input.now, c.requires) }

pub loop-b-preserved : goal.loop-b-preserved
loop-b-preserved c =
    let l = c.loop-b in
    let s = take c.min.result c.args.input.now in
    elim c.if-b-eq10.branch [
      | then-b-eq10 w ↦ omega (arith, w.number-is, l.invariant, after_newline s l.b-index (omega arith) w.if-b-eq10.true)
      | else-b-eq10 w ↦ omega (arith, w.number-is, l.invariant, after_other s l.b-index (omega arith) w.if-b-eq10.false)
    ]

pub returns : goal.returns
returns c =
    let l = c.loop-b in
    l.invariant ∙ number_before c.args.input.now c.min.result l.b-index c.args.from c.min.ensures (omega arith)
