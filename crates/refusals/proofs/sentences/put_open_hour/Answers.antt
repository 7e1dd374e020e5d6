-- `refusals::sentences::put_open_hour` meets its contract. Assumes nothing.
use Rattle.laws.specs.Bytes.{bytes}
use Rattle.lists.proofs.Writing.{then}
use Rattle.refusals.specs.Sentences.{open_hour}
use Rattle.refusals.proofs.sentences.put_open_hour.Goals as goal

pub returns : goal.returns
unfolding open_hour bytes
returns c =
    then c.bytes.ensures
    (then c.plain.ensures
    (then c.bytes-2.ensures
    (then c.plain-2.ensures (then c.bytes-3.ensures (then c.put_missing_hour.ensures c.bytes-4.ensures)))))
