-- `judge::judging::judge_hour` meets its contract. Assumes nothing.
use mathlib.Core.Bool.{true, false}
use mathlib.Core.Path.{◌≡◌, sym, ap, ◌∙◌}
use Rattle.agreement.specs.Agreement.{hour_borne}
use Rattle.agreement.specs.Verdicts.{verdict_of, hour_verdict}
use Rattle.kinds.specs.Kinds.{hour_kinds}
use Rattle.laws.specs.Lists.{range}
use Rattle.judge.proofs.judging.judge_hour.Goals as goal

pub returns-then-any_said : goal.returns-then-any_said
unfolding hour_verdict hour_borne hour_kinds range
returns-then-any_said c =
    let b : hour_borne c.args.facts ≡ true = sym c.any_said.ensures ∙ c.if-any_said.true in
    rw b (c.verdict_of.ensures ∙ ap verdict_of c.search_hours.ensures)

pub returns : goal.returns
unfolding hour_verdict hour_borne hour_kinds range
returns c =
    let b : hour_borne c.args.facts ≡ false = sym c.any_said.ensures ∙ c.if-any_said.false in
    rw b
