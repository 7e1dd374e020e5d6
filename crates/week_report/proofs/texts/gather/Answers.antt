-- `week_report::texts::gather` meets its contract. Assumes nothing.
use Rattle.week_report.proofs.Gathering.{gather_start, gather_next, gathered, read_below}
use Rattle.lists.proofs.Splitting.{within}
use Rattle.lists.specs.Answers.{opened_reading}
use lib.ListN.{length, take, drop}
use native.Mathlib.Omega.{arith}
use mathlib.Core.Path.{◌≡◌, ◌∙◌}
use Prim.Native.Nat.{◌-◌, ◌≤◌}
use Rattle.week_report.proofs.texts.gather.Goals as goal
use Rattle.week_report.proofs.texts.gather.Goals.{After-line_end-stop, After-reading_of}

pub loop-next-init : goal.loop-next-init
loop-next-init c =
    let s = c in
    gather_start _ _ s.args.from _ _ s.requires.input_len_bound.1 s.requires.counts_len.1

-- the line found lies in the input
found : (c : After-line_end-stop) →
    let l = c in
    (l.loop-next.next ≤ c.line_end-stop.result) × (c.line_end-stop.result ≤ length l.args.input.now)
found c = within c.args.input.now c.loop-next.next (omega arith) c.line_end-stop.ensures

pub slice_bounds-answer_to-count : goal.slice_bounds-answer_to-count
slice_bounds-answer_to-count c = (found (goal.at.slice_bounds-answer_to-count c).After-line_end-stop).0

pub slice_bounds-answer_to-start : goal.slice_bounds-answer_to-start
slice_bounds-answer_to-start c = (found (goal.at.slice_bounds-answer_to-start c).After-line_end-stop).0

pub slice_bounds-answer_to-end-in-loop-next : goal.slice_bounds-answer_to-end-in-loop-next
slice_bounds-answer_to-end-in-loop-next c = (found (goal.at.slice_bounds-answer_to-end-in-loop-next c).After-line_end-stop).1

-- its reading
read : (c : After-reading_of) →
    let e = c in
    let l = c in
    let a = l.args in
    let t = take (e.line_end-stop.result - l.loop-next.next) (drop l.loop-next.next a.input.now) in
    c.reading_of.result ≡ opened_reading a.opened a.elements.now t
read c = c.reading_of.ensures ∙ c.answer_to-answer.ensures

pub take_text-n-requires : goal.take_text-n-requires
take_text-n-requires c =
    let reading-of-then = c in
    let at-loop = c in
    let start = c in
    let v = at-loop.loop-next.invariant in
    let p = start.requires in record {
      n_bound =
          (omega (arith, v.ahead, p.input_len_bound), rw (read (goal.at.take_text-n-requires c).After-reading_of) (read_below _ _ _));
      counts_len = (v.long ∙ p.counts_len.0, omega (arith, v.ahead, p.input_len_bound));
    }

pub overflow_add-next : goal.overflow_add-next
overflow_add-next c =
    let line-end-then = c in
    record { fits = omega (arith, found (goal.at.overflow_add-next c).After-line_end-stop) }

pub loop-next-smaller : goal.loop-next-smaller
loop-next-smaller c =
    let line-end-then = c in
    omega (arith, found (goal.at.loop-next-smaller c).After-line_end-stop)

pub loop-next-preserved : goal.loop-next-preserved
loop-next-preserved c =
    let take-text-then = c in
    let reading-of-then = c in
    let line-end-then = c in
    let at-loop = c in
    let start = c in
    let v = at-loop.loop-next.invariant in
    gather_next v (omega arith) line-end-then.line_end-stop.ensures (v.long
    ∙ start.requires.counts_len.0) (read (goal.at.loop-next-preserved c).After-reading_of)
    (rw (read (goal.at.loop-next-preserved c).After-reading_of) (read_below _ _ _)) take-text-then.take_text-n.ensures

pub shape_of-counts : goal.shape_of-counts
shape_of-counts c = c.loop-next.invariant.long

pub returns : goal.returns
returns c = gathered c.loop-next.invariant (omega arith)
