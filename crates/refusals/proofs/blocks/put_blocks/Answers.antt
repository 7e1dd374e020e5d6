-- `refusals::blocks::put_blocks` meets its contract. Assumes nothing.
use Prim.Native.Nat.{◌-◌, ◌≤◌, ◌<◌}
use mathlib.Core.Path.{◌≡◌, sym, ap, ◌∙◌}
use native.Mathlib.Omega.{arith}
use Rattle.std.proofs.Common.{rules}
use lib.ListN.{length, take, drop, length-take, length-drop}
use Rattle.lists.specs.Lines.{lines, longest_input}
use Rattle.lists.proofs.Listing.{list_start, list_next, listed}
use Rattle.lists.proofs.Splitting.{within}
use Rattle.refusals.specs.Blocks.{blocks, opened_block, blocks_by}
use Rattle.refusals.proofs.Lengths.{block_most}
use Rattle.refusals.proofs.Numbering.{number_most, next_number}
use Rattle.refusals.proofs.Whole.{left, next_block}
use Rattle.refusals.proofs.blocks.put_blocks.Goals as goal
use Rattle.refusals.proofs.blocks.put_blocks.Goals.{After-line_end-stop, At-loop-next}

pub overflow_cast-line : goal.overflow_cast-line
overflow_cast-line c =
    let s = c in
    omega (arith, s.requires, (number_most s.args.input.now s.args.from).1)

pub loop-next-init : goal.loop-next-init
loop-next-init c =
    let a = c.args in
    let s = a.input.now in
    let n = c.requires.1 in (
      rw (← left a.opened a.elements.now s a.from a.first c.requires.0 (λ _. n))
          (list_start (blocks_by a.opened a.elements.now s a.from) _ a.from c.new-w.ensures.starts.1),
      omega (arith, n, (number_most s a.from).0),
      λ _. n,
    )

-- what is left is said of the texts from there on
rest : (c : At-loop-next) →
    let a = c.args in
    blocks_by a.opened a.elements.now a.input.now c.loop-next.next
    ≡ blocks (opened_block a.opened a.elements.now) c.loop-next.line (lines (drop c.loop-next.next a.input.now))
rest c =
    let a = c.args in
    left a.opened a.elements.now a.input.now c.loop-next.next c.loop-next.line c.requires.0 c.loop-next.invariant.2

pub shape_of-out-then-w : goal.shape_of-out-then-w
shape_of-out-then-w c = sym (c.loop-next.invariant.0.same_buffer ∙ c.new-w.ensures.same_buffer)

pub returns-then-w : goal.returns-then-w
returns-then-w c =
    let i = c.loop-next.invariant.0 in
    record {
      puts = rw (rest (goal.at.returns-then-w c).At-loop-next) (listed i c.new-w.ensures.starts.0 (search rules));
      goes = λ _. i.some (omega arith);
    }

-- the line found lies in the input
found : (c : After-line_end-stop) →
    let l = c in
    (l.loop-next.next ≤ c.line_end-stop.result) × (c.line_end-stop.result ≤ length l.args.input.now)
found c =
    let l = c in
    within l.args.input.now l.loop-next.next (omega arith) c.line_end-stop.ensures

pub slice_bounds-put_text-count : goal.slice_bounds-put_text-count
slice_bounds-put_text-count c = (found (goal.at.slice_bounds-put_text-count c).After-line_end-stop).0

pub slice_bounds-put_text-start : goal.slice_bounds-put_text-start
slice_bounds-put_text-start c = (found (goal.at.slice_bounds-put_text-start c).After-line_end-stop).0

pub slice_bounds-put_text-end-in-loop-next : goal.slice_bounds-put_text-end-in-loop-next
slice_bounds-put_text-end-in-loop-next c = (found (goal.at.slice_bounds-put_text-end-in-loop-next c).After-line_end-stop).1

pub overflow_add-next : goal.overflow_add-next
overflow_add-next c = omega (arith, found (goal.at.overflow_add-next c).After-line_end-stop)

pub overflow_add-line : goal.overflow_add-line
overflow_add-line c =
    let l = c in
    omega (arith, l.loop-next.invariant.1, l.requires.0)

pub loop-next-smaller : goal.loop-next-smaller
loop-next-smaller c = omega (arith, found (goal.at.loop-next-smaller c).After-line_end-stop)

pub loop-next-preserved : goal.loop-next-preserved
loop-next-preserved c =
    let e = c in
    let l = c in
    let a = l.args in
    let s = a.input.now in
    let i = l.loop-next.invariant in
    let t = take (e.line_end-stop.result - l.loop-next.next) (drop l.loop-next.next s) in
    let most = l.requires.0 in
    let few : l.loop-next.line < 100000 = omega (arith, i.1, most) in
    let short : length t ≤ longest_input =
    omega (
      arith,
      most,
      length-take (e.line_end-stop.result - l.loop-next.next)
          (drop l.loop-next.next s),
      length-drop l.loop-next.next s,
    ) in (
      list_next i.0
          (next_block (opened_block a.opened a.elements.now) l.loop-next.line s l.loop-next.next (omega arith) e.line_end-stop.ensures)
          c.put_text.ensures
          (omega (arith, block_most a.opened a.elements.now t l.loop-next.line few short, ap length c.new-w.ensures.starts.0))
          (omega (arith, found (goal.at.loop-next-preserved c).After-line_end-stop)),
      omega (arith, found (goal.at.loop-next-preserved c).After-line_end-stop, i.1),
      λ h. omega (arith, i.2 (omega arith), next_number s l.loop-next.next e.line_end-stop.ensures (omega arith)),
    )

pub returns : goal.returns
returns c =
    record {
      puts = rw (rest (goal.at.returns c).At-loop-next) (listed c.loop-next.invariant.0 c.new-w.ensures.starts.0 (search rules));
      goes = λ h. omega arith;
    }

pub shape_of-out : goal.shape_of-out
shape_of-out c = sym (c.loop-next.invariant.0.same_buffer ∙ c.new-w.ensures.same_buffer)
