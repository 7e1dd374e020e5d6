-- `sheet_list::weeks::count_week` meets its contract. Assumes nothing.
use Rattle.sheet_list.proofs.Tables.{counted_held, at_held, at_new}
use Rattle.sheet_list.proofs.Shifting.{over_set, put_length}
use Rattle.sheet_list.proofs.Ranks.{below_most}
use lib.Seq.{length-take-le, get_or-take}
use lib.ListN.{length, take, length-set}
use mathlib.Core.Path.{sym, ap, ◌∙◌}
use Prim.Native.Nat.{◌+◌, ◌*◌, ◌<◌}
use native.Mathlib.Omega.{arith}
use Rattle.sheet_list.proofs.weeks.count_week.Goals as goal

pub offset_bounds-table-at : goal.offset_bounds-table-at
offset_bounds-table-at c =
    let a = c in
    let s = c in
    let t = take s.args.weeks s.args.table.now in
    let n = length-take-le s.args.weeks s.args.table.now (omega arith) in
    let r = a.rank-at in
    let h = at_held s.args.week t r.ensures (sym a.is_week_at.ensures ∙ c.if-is_week_at.true) in
    record { fits = omega (arith, h.0, n) }

pub bounds-table-at : goal.bounds-table-at
bounds-table-at c =
    let a = c in
    let s = c in
    let t = take s.args.weeks s.args.table.now in
    let n = length-take-le s.args.weeks s.args.table.now (omega arith) in
    let r = a.rank-at in
    let h = at_held s.args.week t r.ensures (sym a.is_week_at.ensures ∙ c.if-is_week_at.true) in
    omega (arith, h.0, n)

pub overflow_add-table : goal.overflow_add-table
overflow_add-table c =
    let a = c in
    let s = c in
    let t = take s.args.weeks s.args.table.now in
    let n = length-take-le s.args.weeks s.args.table.now (omega arith) in
    let r = a.rank-at in
    let h = at_held s.args.week t r.ensures (sym a.is_week_at.ensures ∙ c.if-is_week_at.true) in
    let g = get_or-take s.args.weeks s.args.table.now r.result 0 (omega (arith, h.0, n)) in
    record { fits = omega (arith, h.1, g) }

pub offset_bounds-table-at-then-is_week_at : goal.offset_bounds-table-at-then-is_week_at
offset_bounds-table-at-then-is_week_at c =
    let a = c in
    let s = c in
    let t = take s.args.weeks s.args.table.now in
    let n = length-take-le s.args.weeks s.args.table.now (omega arith) in
    let r = a.rank-at in
    let h = at_held s.args.week t r.ensures (sym a.is_week_at.ensures ∙ c.if-is_week_at.true) in
    record { fits = omega (arith, h.0, n) }

pub bounds-table-at-then-is_week_at : goal.bounds-table-at-then-is_week_at
bounds-table-at-then-is_week_at c =
    let a = c in
    let s = c in
    let t = take s.args.weeks s.args.table.now in
    let n = length-take-le s.args.weeks s.args.table.now (omega arith) in
    let r = a.rank-at in
    let h = at_held s.args.week t r.ensures (sym a.is_week_at.ensures ∙ c.if-is_week_at.true) in
    omega (arith, h.0, n)

pub returns-then-is_week_at : goal.returns-then-is_week_at
returns-then-is_week_at c =
    let a = c in
    let s = c in
    let t = take s.args.weeks s.args.table.now in
    let n = length-take-le s.args.weeks s.args.table.now (omega arith) in
    let r = a.rank-at in
    let h = at_held s.args.week t r.ensures (sym a.is_week_at.ensures ∙ c.if-is_week_at.true) in
    let l : r.result < s.args.weeks = omega (arith, h.0, n) in
    let e = counted_held s.args.week t r.result r.ensures h.0 h.1 in
    let g = get_or-take s.args.weeks s.args.table.now r.result 0 l in
    rw (e, g)
    (record {
      value = sym (length-set t r.result _
          ∙ n);
      table_after = sym (over_set s.args.table.now s.args.weeks r.result _ l s.requires.weeks_in_bounds);
    })

pub put_at-requires : goal.put_at-requires
put_at-requires c =
    let a = c in
    let s = c in
    let t = take s.args.weeks s.args.table.now in
    let n = length-take-le s.args.weeks s.args.table.now (omega arith) in
    let r = a.rank-at in
    let m = below_most (s.args.week * 17592186044416) t in
    let e = at_new s.args.week t r.ensures (sym a.is_week_at.ensures ∙ c.if-is_week_at.false) in
    let z = put_length t r.result (s.args.week * 17592186044416 + 1) (omega (arith, r.ensures, m)) in
    (omega (arith, r.ensures, m, n), omega (arith, ap length e, z, n))

pub returns : goal.returns
returns c =
    let a = c in
    let s = c in
    let t = take s.args.weeks s.args.table.now in
    let n = length-take-le s.args.weeks s.args.table.now (omega arith) in
    let r = a.rank-at in
    let m = below_most (s.args.week * 17592186044416) t in
    let e = at_new s.args.week t r.ensures (sym a.is_week_at.ensures ∙ c.if-is_week_at.false) in
    let z = put_length t r.result (s.args.week * 17592186044416 + 1) (omega (arith, r.ensures, m)) in
    rw e (record { value = omega (arith, z, n); table_after = c.put_at.ensures })
