-- `judge::judging::judge_day` meets its contract. Assumes nothing.
use mathlib.Core.Bool.{true}
use mathlib.Core.Path.{◌≡◌, sym, ap, ◌∙◌}
use native.Mathlib.Omega.{arith}
use Rattle.calendar.proofs.Years.{days_is}
use Rattle.agreement.specs.Agreement.{day_borne}
use Rattle.judge.specs.Engines.{searched}
use Rattle.judge.specs.declared.Engine.{Engine}
use Rattle.kinds.specs.Kinds.{day_kinds}
use Rattle.laws.specs.Lists.{range}
use Rattle.judge.proofs.Budget.{skipping_borne, within_borne, plain_borne, unborne}
use Rattle.judge.proofs.judging.judge_day.Goals as goal
use Rattle.judge.proofs.judging.judge_day.Goals.{Then-any_said}

-- whether a fact bears on the day
borne : (c : Then-any_said) → day_borne c.args.facts ≡ true
unfolding day_borne day_kinds range
borne c = sym c.any_said.ensures ∙ c.if-any_said.true

pub returns-in-Skipping : goal.returns-in-Skipping
returns-in-Skipping c =
    rw c.judge_skipping.ensures
    (skipping_borne _ (borne (goal.at.returns-in-Skipping c).Then-any_said)
    ∙ ap (λ (e : Engine). searched e c.args.facts) (sym c.in-Skipping.is))

pub returns-in-Plain : goal.returns-in-Plain
returns-in-Plain c =
    c.judge_plainly.ensures
    ∙ plain_borne _ (borne (goal.at.returns-in-Plain c).Then-any_said) _ (omega (arith, days_is))
    ∙ ap (λ (e : Engine). searched e c.args.facts) (sym c.in-Plain.is)

pub returns-in-Within : goal.returns-in-Within
returns-in-Within c =
    c.judge_plainly-in-Within.ensures
    ∙ within_borne _ (borne (goal.at.returns-in-Within c).Then-any_said) _
    ∙ ap (λ (e : Engine). searched e c.args.facts) (sym c.in-Within.is)

pub returns : goal.returns
unfolding day_borne day_kinds range
returns c = unborne _ _ (sym c.any_said.ensures ∙ c.if-any_said.false)
