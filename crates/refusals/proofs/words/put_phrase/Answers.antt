-- `refusals::words::put_phrase` meets its contract. Assumes nothing.
use Rattle.lists.proofs.Writing.{then}
use Rattle.refusals.specs.Words.{phrase}
use Rattle.refusals.proofs.words.put_phrase.Goals as goal

pub returns : goal.returns
unfolding phrase
returns c = then c.put_label_before.ensures c.put_shown.ensures
