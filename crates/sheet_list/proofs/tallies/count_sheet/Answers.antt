-- `sheet_list::tallies::count_sheet` meets its contract. Assumes nothing.
use Rattle.sheet_list.proofs.Tallying.{within, table_rises, counted_fits, stays, counted_more_is, left_most}
use Rattle.sheet_list.specs.Private.{week, counted_in}
use Rattle.sheets.specs.Sheets.{is_packing}
use Rattle.sheets.proofs.Order.{packing_week}
use lib.Seq.{length-take-le}
use lib.ListN.{length, get_or, take}
use native.Mathlib.Omega.{arith}
use Prim.Native.Nat.{◌<◌}
use mathlib.Core.Bool.{and-eq-true_iff}
use mathlib.Core.Path.{sym, ap, ◌∙◌}
use borrow.Author.Tests.{not-true, not-false}
use Rattle.sheet_list.proofs.tallies.count_sheet.Goals as goal

pub slice_bounds-is_counted-end : goal.slice_bounds-is_counted-end
slice_bounds-is_counted-end c = let s = c in within s.requires.tallied s.requires.index_in_bounds.1.1

pub slice_bounds-is_counted-end-2 : goal.slice_bounds-is_counted-end-2
slice_bounds-is_counted-end-2 c =
    let s = c in
    sym (length-take-le s.args.tallied.weeks s.args.table.now (within s.requires.tallied s.requires.index_in_bounds.1.1))

pub is_counted-requires : goal.is_counted-requires
is_counted-requires c =
    let s = c in
    let n = length-take-le s.args.index s.args.words.now (omega arith) in
    table_rises s.requires.tallied (omega (arith, n, s.requires.index_in_bounds))

pub overflow_add-result : goal.overflow_add-result
overflow_add-result c =
    let s = c in
    let n = length-take-le s.args.index s.args.words.now (omega arith) in
    record { fits = omega (arith, n, s.requires.index_in_bounds, s.requires.tallied.left, left_most (take s.args.index s.args.words.now)) }

pub returns-then-not-is_counted : goal.returns-then-not-is_counted
returns-then-not-is_counted c =
    let s = c in
    stays s.args.words.now s.args.table.now s.args.index s.requires.tallied s.requires.index_in_bounds.0 s.requires.index_in_bounds.1.0
    (sym c.is_counted.ensures ∙ not-true _ c.if-not-is_counted.true-raw)

pub count_week-weeks-requires : goal.count_week-weeks-requires
count_week-weeks-requires c =
    let a = c in
    let s = c in
    let x = get_or s.args.words.now s.args.index 0 in
    let n = length-take-le s.args.index s.args.words.now (omega arith) in
    let few : length (take s.args.index s.args.words.now) < week = omega (arith, n, s.requires.index_in_bounds) in
    let e = sym a.is_counted.ensures ∙ not-false _ c.if-not-is_counted.false-raw in
    let w = c.week_of.ensures in
    let f = ap (λ k. length (counted_in k (take s.args.tallied.weeks s.args.table.now))) w in
    record {
      weeks_in_bounds = within s.requires.tallied s.requires.index_in_bounds.1.1;
      table_value =
          (table_rises s.requires.tallied few, omega (arith, w, packing_week x ((and-eq-true_iff (is_packing x) _).0 e).0));
      table_in_bounds = omega (arith, f, counted_fits s.requires.tallied few x s.requires.index_in_bounds.1.1 e);
    }

pub returns : goal.returns
returns c =
    let w = c in
    let a = c in
    let s = c in
    counted_more_is s.args.words.now s.args.table.now s.args.index s.requires.tallied s.requires.index_in_bounds.0
    s.requires.index_in_bounds.1.0
    (sym a.is_counted.ensures ∙ not-false _ w.if-not-is_counted.false-raw) w.week_of.ensures
    c.count_week-weeks.ensures.value c.count_week-weeks.ensures.table_after
