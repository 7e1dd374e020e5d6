-- `sheet_list::tallies::is_counted` meets its contract. Assumes nothing.
use Rattle.sheet_list.proofs.Tallying.{weeks_free, by_week}
use Rattle.sheets.proofs.Order.{packing_week}
use native.Mathlib.Omega.{arith}
use mathlib.Core.Bool.{not}
use mathlib.Core.Path.{sym, ap, ◌∙◌}
use borrow.Author.Tests.{ne_eqb}
use Rattle.sheet_list.proofs.tallies.is_counted.Goals as goal

pub has_week-requires : goal.has_week-requires
has_week-requires c =
    let s = c in
    let p = sym c.is_packing.ensures ∙ c.if-is_packing.true in
    (s.requires, omega (arith, c.week_of.ensures, packing_week s.args.word p))

pub returns-then-table-ne-TABLE_LENGTH : goal.returns-then-table-ne-TABLE_LENGTH
returns-then-table-ne-TABLE_LENGTH c =
    let p = sym c.is_packing.ensures ∙ c.if-is_packing.true in
    ap not (ne_eqb _ _ c.if-table-ne-TABLE_LENGTH.true) ∙ weeks_free _ _ p c.if-table-ne-TABLE_LENGTH.true

pub returns-else-table-ne-TABLE_LENGTH : goal.returns-else-table-ne-TABLE_LENGTH
returns-else-table-ne-TABLE_LENGTH c =
    let p = sym c.is_packing.ensures ∙ c.if-is_packing.true in
    by_week _ _ p c.if-table-ne-TABLE_LENGTH.false c.week_of.ensures c.has_week.ensures
