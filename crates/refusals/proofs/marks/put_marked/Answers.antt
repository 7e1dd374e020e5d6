-- `refusals::marks::put_marked` meets its contract. Assumes nothing.
use Prim.Native.Nat.{◌+◌}
use mathlib.Core.List.{[], ◌∷◌}
use Rattle.conversions.specs.Conversions.{among}
use Rattle.matching.specs.Extents.{extent}
use Rattle.strptime.specs.Answers as reader
use Rattle.refusals.specs.Marks.{marked}
use Rattle.refusals.proofs.Marked.{same_line, by_words}
use Rattle.refusals.proofs.marks.put_marked.Goals as goal

pub only-requires : goal.only-requires
unfolding reader.computes
only-requires c = rw c.in-NoMatch.is at c.args.refused.now.place_fits

pub only-requires-in-OutOfRange : goal.only-requires-in-OutOfRange
unfolding reader.computes
only-requires-in-OutOfRange c = rw c.in-OutOfRange.is at c.args.refused.now.place_fits

pub only-requires-in-Contradiction : goal.only-requires-in-Contradiction
unfolding reader.computes
only-requires-in-Contradiction c = rw c.in-Contradiction.is at c.args.refused.now.place_fits

pub returns-in-NoMatch : goal.returns-in-NoMatch
unfolding marked reader.computes among
returns-in-NoMatch c =
    let p = c in
    let o = c in
    rw (o.in-NoMatch.is, ← same_line o.only.result (extent o.in-NoMatch.at (o.in-NoMatch.at + 1) ∷ []) o.only.ensures)
    p.put_marks_line.ensures

pub returns-in-OutOfRange : goal.returns-in-OutOfRange
unfolding marked reader.computes among
returns-in-OutOfRange c =
    let p = c in
    let o = c in
    rw (
      o.in-OutOfRange.is,
      ← same_line o.only-in-OutOfRange.result
          (extent o.in-OutOfRange.at (o.in-OutOfRange.at + 1) ∷ []) o.only-in-OutOfRange.ensures,
    ) p.put_marks_line-in-OutOfRange.ensures

pub returns-in-Contradiction : goal.returns-in-Contradiction
unfolding marked reader.computes among
returns-in-Contradiction c =
    let p = c in
    let o = c in
    rw (
      o.in-Contradiction.is,
      ← same_line o.only-in-Contradiction.result
          (extent o.in-Contradiction.at (o.in-Contradiction.at + 1) ∷ []) o.only-in-Contradiction.ensures,
    )
    p.put_marks_line-in-Contradiction.ensures

pub returns-in_default : goal.returns-in_default
returns-in_default c =
    let m = c in
    rw (by_words m.args.refused.now.refusal _ c.in_default.not-NoMatch c.in_default.not-OutOfRange c.in_default.not-Contradiction)
    c.put_marks_line-in_default.ensures
