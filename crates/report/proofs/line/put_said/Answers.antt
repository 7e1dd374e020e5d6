-- `report::line::put_said` meets its contract. Assumes nothing.
use Rattle.laws.specs.Bytes.{bytes}
use Rattle.report.specs.Line.{said_shown}
use Rattle.report.proofs.line.put_said.Goals as goal

pub returns-in-None : goal.returns-in-None
unfolding said_shown bytes
returns-in-None c = rw c.in-None.is c.bytes.ensures

pub returns-in-Some : goal.returns-in-Some
unfolding said_shown
returns-in-Some c = rw c.in-Some.is c.two.ensures
