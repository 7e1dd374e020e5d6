-- `values::date_value` meets its contract: the century is the one kind that is divided.
use Rattle.values.specs.Values.{date_value, date_values}
use Rattle.values.proofs.date_value.Goals as goal

pub returns-in-2 : goal.returns-in-2
unfolding date_value date_values
returns-in-2 c = rw c.in-2.is
