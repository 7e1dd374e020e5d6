-- `names::names::cased` meets its contract: its cases are the definition's.
use Rattle.names.specs.Case.{cased}
use Rattle.names.proofs.names.cased.Goals as goal

pub returns-in-AsIs : goal.returns-in-AsIs
unfolding cased
returns-in-AsIs c = rw c.in-AsIs.is

pub returns-in-Small : goal.returns-in-Small
unfolding cased
returns-in-Small c = rw (c.in-Small.is, c.fold.ensures)

pub returns-in-Capital : goal.returns-in-Capital
unfolding cased
returns-in-Capital c = rw (c.in-Capital.is, c.capital.ensures)
