-- `refusals::marks::put_marks_line` meets its contract. Assumes nothing.
use mathlib.Core.Path.{sym, ◌∙◌}
use borrow.Author.Tests.{ne_eqb}
use Rattle.laws.specs.Bytes.{bytes}
use Rattle.lists.proofs.Writing.{nothing, then}
use Rattle.refusals.specs.Marks.{marks_line}
use Rattle.refusals.proofs.marks.put_marks_line.Goals as goal

pub returns-then-last-eq0 : goal.returns-then-last-eq0
unfolding marks_line
returns-then-last-eq0 c = rw (sym c.last_mark-last.ensures ∙ c.if-last-eq0.true) (nothing c.args.w.now)

pub returns : goal.returns
unfolding marks_line bytes
returns c = rw (← c.last_mark-last.ensures, ne_eqb _ 0 c.if-last-eq0.false) (then c.put_marks.ensures c.byte.ensures)
