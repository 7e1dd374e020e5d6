-- `larusqem::show_days` meets its contract, word by word.
use Rattle.strptime.specs.Answers.{showing, examining}
use Rattle.matching.specs.Steps.{no_forms}
use Rattle.words.specs.Words.{offset_flag, offset_word}
use Rattle.larusqem.specs.Words.{more, words_of}
use borrow.Author.Rules.{rules}
use Rattle.larusqem.proofs.show_days.Goals as goal

pub returns : goal.returns
unfolding words_of more offset_flag offset_word examining showing no_forms
returns c = record { value = c.packed.ensures; words_after = search rules }
