-- `names::names::first_value` meets its contract.
use native.Mathlib.Omega.{arith}
use Rattle.names.specs.Naming.{first_value}
use Rattle.names.proofs.names.first_value.Goals as goal

pub returns-in-Weekdays : goal.returns-in-Weekdays
unfolding first_value
returns-in-Weekdays c = (rw c.in-Weekdays.is, omega arith)

pub returns-in-Months : goal.returns-in-Months
unfolding first_value
returns-in-Months c = (rw c.in-Months.is, omega arith)

pub returns-in-Halves : goal.returns-in-Halves
unfolding first_value
returns-in-Halves c = (rw c.in-Halves.is, omega arith)
