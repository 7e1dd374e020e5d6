-- `lists::answers::elements_of` meets its contract. Assumes nothing.
use lib.ListN.{length-take}
use Rattle.lists.specs.Answers.{opened_elements}
use Rattle.lists.proofs.answers.elements_of.Goals as goal

pub returns-in-Ok : goal.returns-in-Ok
unfolding opened_elements
returns-in-Ok c = rw (c.in-Ok.is, length-take) c.min.ensures

pub returns-in-Err : goal.returns-in-Err
unfolding opened_elements
returns-in-Err c = rw c.in-Err.is
