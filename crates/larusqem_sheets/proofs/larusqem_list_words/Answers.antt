-- `larusqem_sheets::larusqem_list_words` meets its contract. Assumes nothing.
use Rattle.larusqem_sheets.specs.Sheets.{judged}
use Rattle.larusqem_sheets.proofs.larusqem_list_words.Goals as goal

pub returns-then-is_held : goal.returns-then-is_held
unfolding judged
returns-then-is_held c = rw (← c.is_held.ensures, c.if-is_held.true)

pub returns : goal.returns
unfolding judged
returns c = rw (← c.is_held.ensures, c.if-is_held.false)
