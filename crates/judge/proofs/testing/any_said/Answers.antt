-- `judge::testing::any_said` meets its contract. Assumes nothing.
use Rattle.std.proofs.Common.{not, sym, ap, ◌∙◌, arith, eq-eqb}
use borrow.Author.Tests.{ne_eqb}
use Rattle.agreement.proofs.Every.{every_turn, every_stop, every_done}
use Rattle.judge.proofs.testing.any_said.Goals as goal

pub returns-then-said-ne0 : goal.returns-then-said-ne0
returns-then-said-ne0 c =
    sym (ap not (sym c.loop-kind.invariant ∙ every_stop _ _ _ (omega arith) (ne_eqb _ 0 (λ z. c.if-said-ne0.true (c.said.ensures ∙ z)))))

pub loop-kind-preserved : goal.loop-kind-preserved
loop-kind-preserved c =
    sym (every_turn _ _ _ (omega arith) (eq-eqb _ 0 (sym c.said.ensures ∙ c.if-said-ne0.false))) ∙ c.loop-kind.invariant

pub returns : goal.returns
returns c = sym (ap not (sym c.loop-kind.invariant ∙ every_done _ _ _ (omega arith)))
