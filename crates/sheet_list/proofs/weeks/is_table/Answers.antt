-- `sheet_list::weeks::is_table` meets its contract. Assumes nothing.
use Rattle.sheet_list.proofs.Tables.{entry_is}
use Rattle.sheet_list.proofs.Runs.{list_weekly, walk_end, walk_short, walk_differs, walk_on, run_some, run_within}
use Rattle.sheets.proofs.Order.{packing_week}
use Rattle.sheets.specs.Sheets.{is_packing, week_of}
use Rattle.laws.proofs.Lists.{each}
use lib.ListN.{get_or}
use native.Mathlib.Omega.{arith}
use mathlib.Core.Path.{sym, ◌∙◌}
use Rattle.sheet_list.proofs.weeks.is_table.Goals as goal

pub returns-then-table-j : goal.returns-then-table-j
returns-then-table-j c =
    let s = c in
    let l = c.loop-i in
    let w = list_weekly s.args.words.now s.requires.packings s.requires.ascends in
    walk_short s.args.words.now s.args.table.now w l.i l.j (omega arith) c.if-table-j.true l.invariant.2

pub overflow_mul-week : goal.overflow_mul-week
overflow_mul-week c =
    let s = c in
    let l = c.loop-i in
    let p = each is_packing 0 s.args.words.now s.requires.packings l.i (λ h. absurd (omega arith)) in
    let m = packing_week (get_or s.args.words.now l.i 0) p in
    record { fits = omega (arith, c.week_of-week.ensures, m) }

pub overflow_add-week : goal.overflow_add-week
overflow_add-week c =
    let s = c in
    let l = c.loop-i in
    let p = each is_packing 0 s.args.words.now s.requires.packings l.i (λ h. absurd (omega arith)) in
    let m = packing_week (get_or s.args.words.now l.i 0) p in
    let k = c.week_of-week.ensures in
    let d = c.week_end-end.ensures in
    let r = run_within (week_of (get_or s.args.words.now l.i 0)) l.i s.args.words.now l.invariant.0 in
    record { fits = omega (arith, k, m, d, r, s.requires.short) }

pub returns-then-table-j-2 : goal.returns-then-table-j-2
returns-then-table-j-2 c =
    let s = c in
    let l = c.loop-i in
    let w = list_weekly s.args.words.now s.requires.packings s.requires.ascends in
    let k = c.week_of-week.ensures in
    let d = c.week_end-end.ensures in
    walk_differs s.args.words.now s.args.table.now w l.i l.j (omega arith) (omega arith)
    (λ g. c.if-table-j-2.true (g ∙ sym (entry_is l.i _ _ k d))) l.invariant.2

pub loop-i-smaller : goal.loop-i-smaller
loop-i-smaller c =
    let s = c in
    let l = c.loop-i in
    let w = list_weekly s.args.words.now s.requires.packings s.requires.ascends in
    let k = c.week_of-week.ensures in
    let d = c.week_end-end.ensures in
    omega (arith, d, run_some s.args.words.now s.args.table.now w l.i l.j (omega arith))

pub loop-i-preserved : goal.loop-i-preserved
loop-i-preserved c =
    let s = c in
    let l = c.loop-i in
    let w = list_weekly s.args.words.now s.requires.packings s.requires.ascends in
    let k = c.week_of-week.ensures in
    let d = c.week_end-end.ensures in
    let r = run_within (week_of (get_or s.args.words.now l.i 0)) l.i s.args.words.now l.invariant.0 in (
      omega (arith, d, r),
      omega arith,
      rw d
          (walk_on s.args.words.now s.args.table.now w l.i l.j (omega arith) (omega arith)
          (c.if-table-j-2.false ∙ entry_is l.i _ _ k d) l.invariant.2),
    )

pub returns : goal.returns
returns c =
    let s = c in
    let l = c.loop-i in
    let w = list_weekly s.args.words.now s.requires.packings s.requires.ascends in
    walk_end s.args.words.now s.args.table.now w l.i l.j (omega arith) l.invariant.1 l.invariant.2
