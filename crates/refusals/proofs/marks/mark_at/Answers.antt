-- `refusals::marks::mark_at` meets its contract. Assumes nothing.
use mathlib.Core.Path.{sym, ◌∙◌}
use Rattle.refusals.specs.Marks.{mark_at}
use Rattle.refusals.proofs.marks.mark_at.Goals as goal

pub returns-then-is_marked : goal.returns-then-is_marked
unfolding mark_at
returns-then-is_marked c = rw (sym c.is_marked.ensures ∙ c.if-is_marked.true)

pub returns-else-is_marked : goal.returns-else-is_marked
unfolding mark_at
returns-else-is_marked c = rw (sym c.is_marked.ensures ∙ c.if-is_marked.false)
