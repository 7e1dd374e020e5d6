-- `strptime::answers::date_by` meets its contract. Assumes nothing.
use mathlib.Core.Path.{sym, ◌∙◌}
use Rattle.judge.proofs.Engines.{searched_verdict}
use Rattle.strptime.proofs.answers.date_by.Goals as goal

pub by_verdict-requires : goal.by_verdict-requires
by_verdict-requires c =
    let d = c in
    searched_verdict _ d.args.state.facts (sym d.judge_day.ensures ∙ c.in_ok-verdict.was)
