-- `names::names::middles_of` meets its contract: each table is the list of its middle forms.
use Rattle.names.specs.Names.{computes}
use Rattle.names.specs.Rows.{form_of}
use Rattle.names.proofs.names.middles_of.Goals as goal

pub returns-in-Weekdays : goal.returns-in-Weekdays
unfolding computes form_of
returns-in-Weekdays c = rw c.in-Weekdays.is

pub returns-in-Months : goal.returns-in-Months
unfolding computes form_of
returns-in-Months c = rw c.in-Months.is

pub returns-in-Halves : goal.returns-in-Halves
unfolding computes form_of
returns-in-Halves c = rw c.in-Halves.is
