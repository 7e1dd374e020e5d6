-- `judge::testing::date_kinds_agree` meets its contract. Assumes nothing.
use Rattle.std.proofs.Common.{sym, ◌∙◌, arith, ◌≡◌, true, eq-eqb}
use Rattle.agreement.specs.Agreement.{said, agrees}
use Rattle.agreement.proofs.Every.{every_turn, every_stop, every_done}
use Rattle.values.specs.Values.{date_value}
use Rattle.judge.proofs.testing.date_kinds_agree.Goals as goal
use Rattle.judge.proofs.testing.date_kinds_agree.Goals.{else-said-ne0-via-then-said-ne0+else-not-agree, else-said-ne0-via-else-said-ne0}

pub returns-then-not-agree : goal.returns-then-not-agree
returns-then-not-agree c = sym (sym c.loop-kind.invariant ∙ every_stop _ _ _ (omega arith) (cc))

pub loop-kind-preserved : goal.loop-kind-preserved
unfolding agrees
loop-kind-preserved c =
    let same : agrees (said c.args.facts.now c.loop-kind.kind) (date_value c.loop-kind.kind c.args.date) ≡ true =
    elim c.else-said-ne0.branch [
      | else-said-ne0-via-then-said-ne0+else-not-agree w ↦ cc (w.agree.ensures, w.date_value.ensures, w.if-not-agree.false)
      | else-said-ne0-via-else-said-ne0 w ↦ rw (eq-eqb _ 0 (sym c.said.ensures ∙ w.if-said-ne0.false))
    ] in
    sym (every_turn _ _ _ (omega arith) same) ∙ c.loop-kind.invariant

pub returns : goal.returns
returns c = sym (sym c.loop-kind.invariant ∙ every_done _ _ _ (omega arith))
