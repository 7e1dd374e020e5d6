-- `refusals::sentences::put_open_day` meets its contract. Assumes nothing.
use Rattle.laws.specs.Bytes.{bytes}
use Rattle.lists.proofs.Writing.{then}
use Rattle.refusals.specs.Sentences.{open_day}
use Rattle.refusals.proofs.sentences.put_open_day.Goals as goal

pub returns : goal.returns
unfolding open_day bytes
returns c =
    let p = rw c.differing.ensures at c.put_part.ensures in
    then c.bytes.ensures
    (then c.date.ensures
    (then c.bytes-2.ensures (then c.date-2.ensures (then c.bytes-3.ensures (then p c.bytes-4.ensures)))))
