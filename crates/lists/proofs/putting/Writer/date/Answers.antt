-- `lists::putting::Writer::date` meets its contract. Assumes nothing.
use Rattle.laws.specs.Bytes.{bytes}
use Rattle.lists.specs.Putting.{date_shown}
use Rattle.lists.proofs.Writing.{then}
use Rattle.lists.proofs.putting.Writer.date.Goals as goal

pub returns : goal.returns
unfolding date_shown bytes
returns c = then c.four.ensures (then c.byte.ensures (then c.two.ensures (then c.byte-2.ensures c.two-2.ensures)))
