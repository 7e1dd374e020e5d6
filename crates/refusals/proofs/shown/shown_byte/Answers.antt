-- `refusals::shown::shown_byte` meets its contract. Assumes nothing.
use mathlib.Core.Path.{sym, ◌∙◌}
use native.Mathlib.Omega.{arith}
use borrow.Author.Tests.{le-leb}
use Rattle.refusals.specs.Shown.{shown_byte}
use Rattle.refusals.proofs.Graphic.{unseen}
use Rattle.refusals.proofs.shown.shown_byte.Goals as goal

pub returns-then-is_space : goal.returns-then-is_space
unfolding shown_byte
returns-then-is_space c = rw (sym c.is_space.ensures ∙ c.if-is_space.true)

pub returns-then-is_ascii_graphic : goal.returns-then-is_ascii_graphic
unfolding shown_byte
returns-then-is_ascii_graphic c =
    let h = rw c.if-is_ascii_graphic.true at c.is_ascii_graphic.ensures.cases in
    rw (sym c.is_space.ensures ∙ c.if-is_space.false, le-leb 33 c.args.b (omega (arith, h)), le-leb c.args.b 126 (omega (arith, h)))

pub returns-else-is_ascii_graphic : goal.returns-else-is_ascii_graphic
unfolding shown_byte
returns-else-is_ascii_graphic c =
    let h = rw c.if-is_ascii_graphic.false at c.is_ascii_graphic.ensures.cases in
    rw (sym c.is_space.ensures ∙ c.if-is_space.false) (unseen c.args.b h)
