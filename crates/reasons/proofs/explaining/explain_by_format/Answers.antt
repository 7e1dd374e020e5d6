-- `reasons::explaining::explain_by_format` meets its contract. Assumes nothing.
use mathlib.Core.Path.{sym, ◌∙◌}
use native.Mathlib.Omega.{arith}
use lib.Seq.{length-take-le}
use Rattle.format.specs.declared.opening.Side.TheVariants.{Reader}
use Rattle.format.proofs.Openings.{Opens, opened_done, stored}
use Rattle.reasons.specs.Reasons.{format_elements}
use Rattle.reasons.proofs.explaining.explain_by_format.Goals as goal
use Rattle.reasons.proofs.explaining.explain_by_format.Goals.{In-Ok}

-- the format opens whole, and there was room for its elements
whole : (c : In-Ok) →
    let a = c.args in
    Opens Reader a.format.now c.in-Ok.count
whole c = opened_done _ _ c.open.ensures.value c.in-Ok.is

pub slice_bounds-elements-end : goal.slice_bounds-elements-end
slice_bounds-elements-end c = omega (arith, (whole c).few, c.open.auto.out)

pub slice_bounds-explain-end : goal.slice_bounds-explain-end
slice_bounds-explain-end c =
    let d = c in
    sym (length-take-le _ _ (omega (arith, (whole (goal.at.slice_bounds-explain-end c).In-Ok).few, d.open.auto.out)))

pub returns-in-Ok : goal.returns-in-Ok
unfolding format_elements
returns-in-Ok c =
    let d = c in
    let o = d.open.ensures in
    rw (
      sym o.value ∙ d.in-Ok.is,
      ← stored _ _ _ o.out_after (whole (goal.at.returns-in-Ok c).In-Ok)
          (omega (arith, (whole (goal.at.returns-in-Ok c).In-Ok).few)),
    ) c.explain.ensures

pub returns-in-Err : goal.returns-in-Err
unfolding format_elements
returns-in-Err c = rw (sym c.open.ensures.value ∙ c.in-Err.is) c.explain-in-Err.ensures
