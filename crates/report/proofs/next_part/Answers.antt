-- `report::next_part` meets its contract. The invariant: the lines that are put and those for the texts that are left are what is to be
-- reported.
use Prim.Native.Nat.{◌-◌, ◌≤◌}
use mathlib.Core.Path.{◌≡◌, sym, ap, ◌∙◌}
use native.Mathlib.Omega.{arith}
use Rattle.std.proofs.Common.{rules}
use lib.ListN.{length, take, drop}
use Rattle.lists.specs.Answers.{opened_reading}
use Rattle.lists.proofs.Figures.{place_fits}
use Rattle.lists.proofs.Listing.{list_start, list_next, listed}
use Rattle.lists.proofs.Splitting.{within}
use Rattle.report.specs.Report.{lines_by}
use Rattle.report.proofs.Figures.{line_short}
use Rattle.report.proofs.Whole.{next_answered}
use Rattle.report.proofs.next_part.Goals as goal
use Rattle.report.proofs.next_part.Goals.{After-line_end-stop, After-reading_of}

pub loop-next-init : goal.loop-next-init
loop-next-init c =
    let a = c.args in
    list_start (lines_by a.opened a.elements.now a.input.now a.from) _ a.from c.new-w.ensures.starts.1

pub shape_of-out-then-w : goal.shape_of-out-then-w
shape_of-out-then-w c = sym (c.loop-next.invariant.same_buffer ∙ c.new-w.ensures.same_buffer)

pub returns-then-w : goal.returns-then-w
returns-then-w c =
    let i = c.loop-next.invariant in
    record { puts = listed i c.new-w.ensures.starts.0 (search rules); goes = λ _. i.some (omega arith) }

-- the line found lies in the input
found : (c : After-line_end-stop) →
    let l = c in
    (l.loop-next.next ≤ c.line_end-stop.result) × (c.line_end-stop.result ≤ length l.args.input.now)
found c =
    let l = c in
    within l.args.input.now l.loop-next.next (omega arith) c.line_end-stop.ensures

pub slice_bounds-answer_to-count : goal.slice_bounds-answer_to-count
slice_bounds-answer_to-count c = (found (goal.at.slice_bounds-answer_to-count c).After-line_end-stop).0

pub slice_bounds-answer_to-start : goal.slice_bounds-answer_to-start
slice_bounds-answer_to-start c = (found (goal.at.slice_bounds-answer_to-start c).After-line_end-stop).0

pub slice_bounds-answer_to-end-in-loop-next : goal.slice_bounds-answer_to-end-in-loop-next
slice_bounds-answer_to-end-in-loop-next c = (found (goal.at.slice_bounds-answer_to-end-in-loop-next c).After-line_end-stop).1

-- its reading
read : (c : After-reading_of) →
    let e = c in
    let l = c in
    let a = l.args in
    let t = take (e.line_end-stop.result - l.loop-next.next) (drop l.loop-next.next a.input.now) in
    c.reading_of.result ≡ opened_reading a.opened a.elements.now t
read c = c.reading_of.ensures ∙ c.answer_to-answer.ensures

pub put_line-requires : goal.put_line-requires
put_line-requires c = rw (read c) (place_fits _ _ _)

pub overflow_add-next : goal.overflow_add-next
overflow_add-next c = omega (arith, found (goal.at.overflow_add-next c).After-line_end-stop)

pub loop-next-smaller : goal.loop-next-smaller
loop-next-smaller c = omega (arith, found (goal.at.loop-next-smaller c).After-line_end-stop)

pub loop-next-preserved : goal.loop-next-preserved
loop-next-preserved c =
    let e = c in
    let l = c in
    let a = l.args in
    let t = take (e.line_end-stop.result - l.loop-next.next) (drop l.loop-next.next a.input.now) in
    list_next l.loop-next.invariant
    (next_answered (opened_reading a.opened a.elements.now) a.input.now l.loop-next.next (omega arith) e.line_end-stop.ensures)
    (rw (read (goal.at.loop-next-preserved c).After-reading_of) at c.put_line.ensures)
    (omega (arith, line_short a.opened a.elements.now t, ap length c.new-w.ensures.starts.0))
    (omega (arith, found (goal.at.loop-next-preserved c).After-line_end-stop))

pub returns : goal.returns
returns c = record { puts = listed c.loop-next.invariant c.new-w.ensures.starts.0 (search rules); goes = λ h. omega arith }

pub shape_of-out : goal.shape_of-out
shape_of-out c = sym (c.loop-next.invariant.same_buffer ∙ c.new-w.ensures.same_buffer)
