-- `strftime::putting::put_elements` meets its contract. The invariant: the rest of the text, stored at the place reached, gives what is to
-- be left in the buffer.
use native.Mathlib.Omega.{arith}
use Rattle.strftime.proofs.Loops.{room, put_next, all_put}
use Rattle.strftime.proofs.putting.put_elements.Goals as goal

pub put_element-at-requires : goal.put_element-at-requires
put_element-at-requires c = room c.loop-e.invariant (omega arith)

pub loop-e-preserved : goal.loop-e-preserved
loop-e-preserved c = put_next c.loop-e.invariant (omega arith) c.put_element-at.ensures

pub returns : goal.returns
returns c = all_put c.loop-e.invariant (omega arith)
