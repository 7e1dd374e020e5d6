-- `matching::extents::first_said` meets its contract. Assumes nothing.
use mathlib.Core.Path.{refl, sym, ap, ◌∙◌}
use native.Mathlib.Omega.{arith}
use Rattle.std.specs.Prelude.{Ok}
use Rattle.matching.proofs.FirstSaid.{said_nowhere, said_skip, said_other, said_found, said_refused}
use Rattle.matching.proofs.extents.first_said.Goals as goal
use Rattle.matching.proofs.extents.first_said.Goals.{in-Skip, in-Fact+else-said-kind}

pub loop-element-init : goal.loop-element-init
loop-element-init c = (omega arith, refl)

pub returns-then-said-kind : goal.returns-then-said-kind
returns-then-said-kind c =
    let l = c.loop-element in
    let f = c.in-Ok.is ∙ ap Ok c.in-Fact.is in
    said_found _ _ _ _ l.element-index (omega arith) l.invariant.0 c.read_element.ensures f c.if-said-kind.true ∙ l.invariant.1

pub returns-in_default : goal.returns-in_default
returns-in_default c =
    let l = c.loop-element in
    c.nowhere.ensures
    ∙ said_refused _ _ _ _ l.element-index (omega arith) l.invariant.0 c.read_element.ensures c.in_default.not-Ok
    ∙ l.invariant.1

pub loop-element-preserved : goal.loop-element-preserved
loop-element-preserved c =
    let l = c.loop-element in
    let e = c.read_element.ensures in
    elim c.match-item.branch [
      | in-Skip w ↦
          let g = said_skip _ _ _ _ l.element-index (omega arith) l.invariant.0 e (c.in-Ok.is ∙ ap Ok w.in-Skip.is) in
          rw w.at-is (g.0, g.1 ∙ l.invariant.1)
      | in-Fact+else-said-kind w ↦
          let f = c.in-Ok.is ∙ ap Ok w.in-Fact.is in
          let g = said_other _ _ _ _ l.element-index (omega arith) l.invariant.0 e f w.if-said-kind.false in
          rw w.at-is (g.0, g.1 ∙ l.invariant.1)
    ]

pub returns : goal.returns
returns c =
    let a = c.args in
    let l = c.loop-element in
    c.nowhere-2.ensures ∙ sym (said_nowhere a.kind a.elements.now a.s.now l.at l.element-index (omega arith)) ∙ l.invariant.1
