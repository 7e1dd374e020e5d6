-- `lists::answers::answer_to` meets its contract.
use mathlib.Core.Path.{sym}
use native.Mathlib.Omega.{arith}
use lib.ListN.{length-take}
use lib.Seq.{length-take-le}
use Rattle.lists.specs.Answers.{opened_reading, opened_elements}
use Rattle.strptime.specs.Answers.{reading_of, refusal_of}
use Rattle.strptime.proofs.Opens.{text_long, text_short}
use Rattle.lists.proofs.Formats.{elements_first}
use Rattle.lists.proofs.answers.answer_to.Goals as goal
use Rattle.std.specs.Prelude.{Ok}

pub slice_bounds-read_elements-end : goal.slice_bounds-read_elements-end
unfolding opened_elements
slice_bounds-read_elements-end c =
    let n = rw c.in-Ok.is at c.elements_of-count.ensures in
    sym (length-take-le _ _ (omega (arith, n, length-take c.in-Ok.field-0 c.args.elements.now)))

pub returns-then-text-gt-LONGEST : goal.returns-then-text-gt-LONGEST
unfolding reading_of refusal_of opened_reading
returns-then-text-gt-LONGEST c =
    let t = c.args.text.now in
    rw (c.in-Err-Bad.is, rw c.in-Err-Bad.is at c.in-Err-Bad.field-0-is) (text_long t _ (omega arith))

pub returns-in-Ok : goal.returns-in-Ok
unfolding opened_reading opened_elements
returns-in-Ok c =
    let n = rw c.in-Ok.is at c.elements_of-count.ensures in
    rw c.in-Ok.is (rw (n, elements_first (Ok c.in-Ok.field-0) c.args.elements.now) at c.read_elements.ensures)

pub returns-in-Err-TooLong : goal.returns-in-Err-TooLong
unfolding reading_of refusal_of opened_reading
returns-in-Err-TooLong c =
    rw (c.in-Err-TooLong.is, rw c.in-Err-TooLong.is at c.in-Err-TooLong.field-0-is)

pub returns-else-text-gt-LONGEST : goal.returns-else-text-gt-LONGEST
unfolding reading_of refusal_of opened_reading
returns-else-text-gt-LONGEST c =
    let t = c.args.text.now in
    rw (c.in-Err-Bad.is, rw c.in-Err-Bad.is at c.in-Err-Bad.field-0-is, c.min.ensures) (text_short t _ (omega arith))
