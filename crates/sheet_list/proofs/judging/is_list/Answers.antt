-- `sheet_list::judging::is_list` meets its contract. Assumes nothing.
use native.Mathlib.Omega.{arith}
use mathlib.Core.Path.{sym, ◌∙◌}
use Rattle.sheet_list.proofs.Listing.{listing_start, listing_end, listing_falls, listing_breaks, listing_on}
use Rattle.sheet_list.proofs.judging.is_list.Goals as goal
use Rattle.sheet_list.proofs.judging.is_list.Goals.{then-word-low-via-then-word-low, then-word-low-via-else-word-low+then-not-is_packing}

pub loop-word-init : goal.loop-word-init
loop-word-init c = listing_start c.args.words.now

pub returns-then-word-low : goal.returns-then-word-low
returns-then-word-low c =
    let l = c.loop-word in
    elim c.then-word-low.branch [
      | then-word-low-via-then-word-low w ↦
          listing_falls c.args.words.now l.low l.word-index (omega arith) l.invariant w.if-word-low.true
      | then-word-low-via-else-word-low+then-not-is_packing w ↦
          listing_breaks c.args.words.now l.low l.word-index (omega arith) l.invariant
          (sym w.is_packing.ensures ∙ w.if-not-is_packing.true)
    ]

pub loop-word-preserved : goal.loop-word-preserved
loop-word-preserved c =
    let l = c.loop-word in
    listing_on c.args.words.now l.low l.word-index (omega arith) l.invariant c.if-word-low.false
    (sym c.is_packing.ensures ∙ c.if-not-is_packing.false)

pub returns : goal.returns
returns c =
    let l = c.loop-word in
    listing_end c.args.words.now l.low l.word-index (omega arith) l.invariant
