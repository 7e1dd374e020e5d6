-- `agreement::search::search_hours` meets its contract. Assumes nothing.
use mathlib.Core.Path.{sym, ◌∙◌}
use native.Mathlib.Omega.{arith}
use Rattle.agreement.proofs.SoFar.{so_far_none, so_far_hit, so_far_miss, so_far_end, so_far_two}
use Rattle.agreement.proofs.search.search_hours.Goals as goal
use Rattle.agreement.proofs.search.search_hours.Goals.{then-hour_agrees+else-is_two, else-hour_agrees}

pub loop-hour-init : goal.loop-hour-init
loop-hour-init c = so_far_none _ 0 24

pub loop-hour-preserved : goal.loop-hour-preserved
loop-hour-preserved c =
    let s = c.loop-hour.invariant in
    let e = c.hour_agrees.ensures in
    elim c.if-hour_agrees.branch [
      | then-hour_agrees+else-is_two w ↦ rw (w.found-is, w.hit-found.ensures) (so_far_hit _ 0 24 _ _ s (omega arith) (sym e
          ∙ w.if-hour_agrees.true))
      | else-hour_agrees w ↦ rw w.found-is (so_far_miss _ 0 24 _ _ s (omega arith) (sym e ∙ w.if-hour_agrees.false))
    ]

pub returns-after-loop-hour : goal.returns-after-loop-hour
returns-after-loop-hour c = so_far_end _ 0 24 _ _ c.loop-hour.invariant (omega arith)

pub returns-then-is_two : goal.returns-then-is_two
returns-then-is_two c =
    let i = c in
    let e = sym i.hour_agrees.ensures ∙ i.if-hour_agrees.true in
    so_far_two _ 0 24 _ _
    (rw (← c.hit-found.ensures) at (so_far_hit _ 0 24 _ _ i.loop-hour.invariant (omega arith) e))
    (sym c.is_two.ensures ∙ c.if-is_two.true)
