-- `names::names::first_middle` meets its contract. The invariant: what the forms from here on give is what all give.
use mathlib.Core.Path.{sym, ◌∙◌}
use Rattle.names.proofs.Middles.{ended, this_form, a_later_form}
use Rattle.names.proofs.names.first_middle.Goals as goal

pub returns-then-goes_on : goal.returns-then-goes_on
returns-then-goes_on c =
    let a = c.args in
    let l = c.loop-m in
    sym (this_form a.middles.now a.s.now l.m-index _ c.loop-m-test.true (sym c.goes_on.ensures ∙ c.if-goes_on.true)) ∙ l.invariant

pub loop-m-preserved : goal.loop-m-preserved
loop-m-preserved c =
    let a = c.args in
    let l = c.loop-m in
    sym (a_later_form a.middles.now a.s.now l.m-index _ c.loop-m-test.true (sym c.goes_on.ensures ∙ c.if-goes_on.false)) ∙ l.invariant

pub returns : goal.returns
returns c =
    let a = c.args in
    let l = c.loop-m in
    sym (ended a.middles.now a.s.now l.m-index c.loop-m-test.false) ∙ l.invariant
