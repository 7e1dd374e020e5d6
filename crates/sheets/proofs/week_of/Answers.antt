-- `sheets::week_of` meets its contract. Assumes nothing.
use Rattle.sheets.specs.Sheets.{week_of_date, week_of}
use mathlib.Core.Path.{ap, ◌∙◌}
use Rattle.sheets.proofs.week_of.Goals as goal

pub returns : goal.returns
unfolding week_of
returns c = c.week_of_date.ensures ∙ ap week_of_date c.date_of.ensures
