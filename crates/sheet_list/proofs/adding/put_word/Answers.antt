-- `sheet_list::adding::put_word` meets its contract. Assumes nothing.
use Rattle.sheet_list.proofs.Steps.{put_is}
use Rattle.sheet_list.proofs.Holding.{sound, room_left, table_rises, table_with, weeks_fit}
use Rattle.sheet_list.specs.Private.{counted_in}
use Rattle.sheets.proofs.Order.{packing_week}
use lib.ListN.{length, take}
use mathlib.Core.Path.{ap, ◌∙◌}
use native.Mathlib.Omega.{arith}
use Rattle.sheet_list.proofs.adding.put_word.Goals as goal

pub insert-requires : goal.insert-requires
insert-requires c =
    let s = c in
    let v = sound _ s.requires.weeks_value in
    record { count_in_bounds = room_left _ v s.args.word s.requires.weeks_value_2; words_value = v.ascends }

pub count_week-requires : goal.count_week-requires
count_week-requires c =
    let s = c in
    let v = sound _ s.requires.weeks_value in
    let e = c.week_of.ensures in
    let f = ap (λ k. length (counted_in k (take s.args.weeks s.args.table.now))) e ∙ ap length (table_with _ v s.args.word) in
    record {
      weeks_in_bounds = omega (arith, v.size, v.inside);
      table_value =
          (table_rises _ v, omega (arith, e, packing_week s.args.word s.requires.word_value));
      table_in_bounds = omega
          (arith, f, weeks_fit _ v s.args.word s.requires.weeks_value_2, v.size);
    }

pub returns : goal.returns
returns c =
    let s = c in
    put_is s.args.word _ (sound _ s.requires.weeks_value) c.week_of.ensures
    c.insert.ensures
    c.count_week.ensures.value c.count_week.ensures.table_after
