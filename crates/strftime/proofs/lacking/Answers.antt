-- `strftime::lacking` meets its contract.
use Rattle.strftime.specs.Writing.{lacking}
use Rattle.strftime.proofs.lacking.Goals as goal

pub returns-in-None : goal.returns-in-None
unfolding lacking
returns-in-None c = rw c.in-None.is c.first_seconds.ensures

pub returns-in-Some : goal.returns-in-Some
unfolding lacking
returns-in-Some c = rw c.in-Some.is
