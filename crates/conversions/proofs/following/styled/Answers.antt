-- `conversions::following::styled` meets its contract: a flag and a width lie within the format, and are small.
use Prim.Native.Nat.{ℕ, ◌+◌, ◌≤◌}
use mathlib.Core.List.{List}
use mathlib.Core.Path.{◌≡◌}
use native.Mathlib.Omega.{arith}
use lib.ListN.{length, drop, length-drop}
use Rattle.text.specs.Digits.{decimal}
use Rattle.conversions.specs.Pieces.{flag_run, width_run}
use Rattle.conversions.proofs.Pieces.{rest, styled_is, at_most_three}
use Rattle.conversions.proofs.Styles.{flag_run_lem, width_run_lem, flag_bytes_lem}
use Rattle.conversions.proofs.following.styled.Goals as goal
use Rattle.conversions.proofs.following.styled.Goals.{After-from-from, After-width_at-width}

-- the flag has so many bytes, and lies within the format
flag-count : (c : After-from-from) → c.from-from.result ≡ length (flag_run c.args.s.now)
flag-count c = flag_bytes_lem _ c.flag_at-flag.ensures c.from-from.ensures

flag-within : (c : After-from-from) → c.from-from.result ≤ length c.args.s.now
flag-within c = omega (arith, flag-count c, (flag_run_lem c.args.s.now).within)

-- what stands after it, and the width there
abbrev after-flag : After-width_at-width → List ℕ
after-flag c = drop c.from-from.result c.args.s.now

width_is : (c : After-width_at-width)
    → (c.width_at-width.result.value ≡ decimal 0 (width_run (after-flag c)))
    × (c.width_at-width.result.count ≡ length (width_run (after-flag c)))
width_is c = rw rest at c.width_at-width.ensures

both-within : (c : After-width_at-width)
    → c.from-from.result + c.width_at-width.result.count ≤ length c.args.s.now
both-within c =
    omega (
      arith,
      flag-within (goal.at.After-width_at-width c).After-from-from,
      (width_is c).1,
      (width_run_lem (after-flag c)).within,
      length-drop c.from-from.result c.args.s.now,
    )

pub slice_bounds-width_at-count : goal.slice_bounds-width_at-count
slice_bounds-width_at-count c = flag-within c

pub slice_bounds-width_at-start : goal.slice_bounds-width_at-start
slice_bounds-width_at-start c = omega (arith, flag-within c)

pub overflow_add-n : goal.overflow_add-n
overflow_add-n c = omega (arith, both-within (goal.at.overflow_add-n c).After-width_at-width)

pub slice_bounds-conversion-count : goal.slice_bounds-conversion-count
slice_bounds-conversion-count c = both-within (goal.at.slice_bounds-conversion-count c).After-width_at-width

pub slice_bounds-conversion-start : goal.slice_bounds-conversion-start
slice_bounds-conversion-start c = omega (arith, both-within (goal.at.slice_bounds-conversion-start c).After-width_at-width)

pub overflow_cast-style : goal.overflow_cast-style
overflow_cast-style c = let w = c in omega (
  arith,
  (width_is (goal.at.overflow_cast-style c).After-width_at-width).0,
  (width_run_lem (after-flag (goal.at.overflow_cast-style c).After-width_at-width)).most,
)

pub overflow_add-result : goal.overflow_add-result
overflow_add-result c =
    let p = c in
    omega (arith, both-within (goal.at.overflow_add-result c).After-width_at-width, at_most_three _ p.conversion-piece.ensures)

pub returns : goal.returns
returns c =
    let p = c in
    let w = c in
    styled_is _ w.flag_at-flag.ensures (flag-count (goal.at.returns c).After-from-from)
    (width_is (goal.at.returns c).After-width_at-width)
    (rw rest at p.conversion-piece.ensures)
    c.with_style.ensures
