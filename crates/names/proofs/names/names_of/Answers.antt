-- `names::names::names_of` meets its contract: each table is the list of its names.
use Rattle.names.specs.Names.{computes}
use Rattle.names.proofs.names.names_of.Goals as goal

pub returns-in-Weekdays : goal.returns-in-Weekdays
unfolding computes
returns-in-Weekdays c = rw c.in-Weekdays.is

pub returns-in-Months : goal.returns-in-Months
unfolding computes
returns-in-Months c = rw c.in-Months.is

pub returns-in-Halves : goal.returns-in-Halves
unfolding computes
returns-in-Halves c = rw c.in-Halves.is
