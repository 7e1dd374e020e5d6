-- `refusals::sentences::put_bad_conversion` meets its contract. Assumes nothing.
use Rattle.laws.specs.Bytes.{bytes}
use Rattle.lists.proofs.Writing.{then}
use Rattle.refusals.specs.Sentences.{bad_conversion}
use Rattle.refusals.proofs.sentences.put_bad_conversion.Goals as goal

pub returns : goal.returns
unfolding bad_conversion bytes
returns c = then c.bytes.ensures (then c.plain.ensures c.bytes-2.ensures)
