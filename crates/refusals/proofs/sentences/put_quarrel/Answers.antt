-- `refusals::sentences::put_quarrel` meets its contract. Assumes nothing.
use Rattle.laws.specs.Bytes.{bytes}
use Rattle.lists.proofs.Writing.{then}
use Rattle.refusals.specs.Sentences.{quarrel}
use Rattle.refusals.proofs.sentences.put_quarrel.Goals as goal

pub returns : goal.returns
unfolding quarrel bytes
returns c =
    then c.bytes.ensures (then c.put_noun.ensures (then c.bytes-2.ensures (then c.put_word_list.ensures c.bytes-3.ensures)))
