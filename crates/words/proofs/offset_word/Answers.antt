-- `words::offset_word` meets its contract.
use borrow.Author.Rules.{rules}
use mir.Facts.{to_z-of_z}
use mir.Syntax.{w32}
use mir.Val.{SFits}
use Rattle.words.specs.Words.{offset_word}
use Rattle.words.proofs.Signed.{word_is}
use Rattle.words.proofs.offset_word.Goals as goal

pub returns-in-None : goal.returns-in-None
unfolding offset_word
returns-in-None c = rw c.in-None.is

pub returns-in-Some : goal.returns-in-Some
unfolding offset_word
returns-in-Some c =
    let f : SFits w32 c.in-Some.east = search rules in
    rw (c.in-Some.is, ← word_is c.in-Some.east) (rw (to_z-of_z f) at c.cast_unsigned.ensures)
