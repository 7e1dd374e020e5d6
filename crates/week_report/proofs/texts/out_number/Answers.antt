-- `week_report::texts::out_number` meets its contract. Assumes nothing.
use Rattle.week_report.specs.Texts.{sheet_or_out}
use Rattle.week_report.proofs.texts.out_number.Goals as goal

pub returns-in-NoDay : goal.returns-in-NoDay
unfolding sheet_or_out
returns-in-NoDay c = rw c.in-NoDay.is

pub returns-in-Bad : goal.returns-in-Bad
unfolding sheet_or_out
returns-in-Bad c = rw c.in-Bad.is
