-- `sheet_list::weeks::has_week` meets its contract. Assumes nothing.
use Rattle.sheet_list.proofs.Tables.{week_at}
use mathlib.Core.Path.{◌∙◌}
use Rattle.sheet_list.proofs.weeks.has_week.Goals as goal

pub returns : goal.returns
returns c =
    let s = c in
    c.is_week_at.ensures ∙ week_at s.args.week s.args.table.now c.rank-at.ensures 0 s.requires.0
