-- `larusqem_reasons::reason_words` meets its contract. Assumes nothing.
use Rattle.larusqem_reasons.specs.Reasons.{reason_words}
use Rattle.larusqem_reasons.proofs.reason_words.Goals as goal

pub returns : goal.returns
unfolding reason_words
returns c = rw (c.extent_words-words.ensures, c.differ_number.ensures)
