-- `reasons::explaining::quarrel_words` meets its contract. Assumes nothing.
use Rattle.reasons.specs.Private.{word_in, words_in}
use Rattle.reasons.specs.Quarrels.{is_named}
use Rattle.reasons.specs.Reasons.{facts_in, quarrel_words}
use Rattle.reasons.proofs.explaining.quarrel_words.Goals as goal

pub returns : goal.returns
unfolding quarrel_words facts_in is_named words_in word_in
returns c =
    rw (c.words_in.ensures, c.quarrelling.ensures, c.read_all-stepped.ensures)
