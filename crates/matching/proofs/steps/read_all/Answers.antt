-- `matching::steps::read_all` meets its contract. Assumes nothing.
use mathlib.Core.Path.{refl, sym, ◌∙◌}
use native.Mathlib.Omega.{arith}
use Rattle.matching.specs.Steps.{unsaid, start, no_forms}
use Rattle.matching.proofs.Walk.{step_within, all_end, all_more, all_stop}
use Rattle.matching.proofs.steps.read_all.Goals as goal

pub loop-element-init : goal.loop-element-init
unfolding start unsaid no_forms
loop-element-init c = (omega arith, refl)

pub returns-in_default : goal.returns-in_default
returns-in_default c =
    let a = c.args in
    let l = c.loop-element in
    c.stopped.ensures
    ∙ sym (all_stop a.elements.now a.s.now _ _ l.element-index (omega arith) _ _ _ c.step_on-step.ensures (c.in_default.not-Ok tt))
    ∙ l.invariant.1

pub loop-element-preserved : goal.loop-element-preserved
loop-element-preserved c =
    let a = c.args in
    let l = c.loop-element in
    let e = c.step_on-step.ensures in (
      step_within _ a.s.now _ _ _ _ _ l.invariant.0 e,
      sym (all_more a.elements.now a.s.now _ _ l.element-index (omega arith) _ _ _ e c.in-Ok.is) ∙ l.invariant.1,
    )

pub returns : goal.returns
returns c =
    let a = c.args in
    let l = c.loop-element in
    c.stopped-2.ensures ∙ sym (all_end a.elements.now a.s.now _ _ l.element-index (omega arith)) ∙ l.invariant.1
