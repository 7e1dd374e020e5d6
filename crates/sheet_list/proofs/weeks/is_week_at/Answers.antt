-- `sheet_list::weeks::is_week_at` meets its contract. Assumes nothing.
use Rattle.sheet_list.specs.Private.{is_week_at}
use borrow.Author.Tests.{le-ltb, lt-ltb}
use Rattle.sheet_list.proofs.weeks.is_week_at.Goals as goal

pub returns-then-at-table : goal.returns-then-at-table
unfolding is_week_at
returns-then-at-table c = rw (lt-ltb _ _ c.if-at-table.true)

pub returns-else-at-table : goal.returns-else-at-table
unfolding is_week_at
returns-else-at-table c = rw (le-ltb _ _ c.if-at-table.false)
