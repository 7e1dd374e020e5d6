-- `report::line::put_day` meets its contract. Assumes nothing.
use Rattle.laws.specs.Bytes.{bytes}
use Rattle.report.specs.Line.{day_shown}
use Rattle.report.proofs.line.put_day.Goals as goal

pub returns-in-None : goal.returns-in-None
unfolding day_shown bytes
returns-in-None c = rw c.in-None.is c.byte.ensures

pub returns-in-Some : goal.returns-in-Some
unfolding day_shown
returns-in-Some c = rw c.in-Some.is c.date.ensures
