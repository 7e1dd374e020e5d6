-- `sheet_list::adding::is_full` meets its contract. Assumes nothing.
use Rattle.sheet_list.proofs.Steps.{full_array, weeks_left, by_weeks}
use Rattle.sheet_list.proofs.Holding.{sound, table_rises}
use Rattle.sheet_list.specs.Private.{week_in}
use Rattle.sheets.proofs.Order.{packing_week}
use lib.ListN.{take}
use lib.Seq.{length-take-le}
use mathlib.Core.Path.{sym, ap, ◌∙◌}
use mathlib.Core.Bool.{not}
use native.Mathlib.Omega.{arith}
use borrow.Author.Tests.{eq-eqb, ne_eqb}
use Rattle.sheet_list.proofs.adding.is_full.Goals as goal

pub returns-then-count-words : goal.returns-then-count-words
returns-then-count-words c = eq-eqb _ _ c.if-count-words.true ∙ full_array _ _ c.if-count-words.true

pub slice_bounds-has_week-end : goal.slice_bounds-has_week-end
slice_bounds-has_week-end c =
    let s = c in
    let v = sound _ s.requires.weeks_value in
    sym (length-take-le s.args.weeks s.args.table.now (omega (arith, v.size, v.inside)))

pub has_week-requires : goal.has_week-requires
has_week-requires c =
    let s = c in
    (table_rises _ (sound _ s.requires.weeks_value), omega (arith, c.week_of.ensures, packing_week s.args.word s.requires.word_value))

pub returns-then-weeks-eq-TABLE_LENGTH : goal.returns-then-weeks-eq-TABLE_LENGTH
returns-then-weeks-eq-TABLE_LENGTH c =
    let s = c in
    ap not (c.has_week.ensures ∙ ap (λ k. week_in k (take s.args.weeks s.args.table.now)) c.week_of.ensures)
    ∙ sym (by_weeks s.args.word _ c.if-count-words.false (sound _ s.requires.weeks_value)
    c.if-weeks-eq-TABLE_LENGTH.true)

pub returns-else-weeks-eq-TABLE_LENGTH : goal.returns-else-weeks-eq-TABLE_LENGTH
returns-else-weeks-eq-TABLE_LENGTH c =
    ne_eqb _ _ c.if-weeks-eq-TABLE_LENGTH.false ∙ weeks_left _ _ c.if-count-words.false c.if-weeks-eq-TABLE_LENGTH.false
