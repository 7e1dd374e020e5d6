-- `strptime::answers::by_verdict` meets its contract. Assumes nothing.
use mathlib.Core.Path.{sym, ◌∙◌}
use Rattle.agreement.proofs.Demand.{day_judged}
use Rattle.strptime.proofs.answers.by_verdict.Goals as goal

pub date_at-requires : goal.date_at-requires
date_at-requires c =
    let d = c in
    (((day_judged d.args.state.facts).open _ _).0 (sym d.requires ∙ c.in-Open.is)).1.is_first

pub date_at-requires-in-Open : goal.date_at-requires-in-Open
date_at-requires-in-Open c =
    let d = c in
    (((day_judged d.args.state.facts).open _ _).0 (sym d.requires ∙ c.in-Open.is)).1.is_second

pub said_date-requires : goal.said_date-requires
said_date-requires c =
    let d = c in
    let o = (((day_judged d.args.state.facts).agreed _).0 (sym d.requires ∙ c.in-Agreed.is)).1 in
    record { number_nonzero = o.is; day_agrees = o.agrees }
