-- `sheet_list::tallies::count_sheets` meets its contract. Assumes nothing.
use Rattle.sheet_list.proofs.Tallying.{again, onward, tallied_start, first_most}
use native.Mathlib.Omega.{arith}
use mathlib.Core.Path.{refl}
use Rattle.sheet_list.proofs.tallies.count_sheets.Goals as goal

pub loop-index-init : goal.loop-index-init
loop-index-init c = tallied_start c.args.words.now _

pub count_sheet-tallied-requires-clause-tallied : goal.count_sheet-tallied-requires-clause-tallied
count_sheet-tallied-requires-clause-tallied c = again c.loop-index.invariant

pub loop-index-preserved : goal.loop-index-preserved
loop-index-preserved c =
    let l = c.loop-index in
    onward l.invariant _ l.index (omega (arith, c.min-index-end.ensures)) refl c.count_sheet-tallied.ensures

pub returns : goal.returns
returns c =
    let l = c.loop-index in
    rw (first_most c.args.words.now l.index (omega (arith, c.min-index-end.ensures))) l.invariant
