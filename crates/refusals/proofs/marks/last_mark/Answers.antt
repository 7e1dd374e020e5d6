-- `refusals::marks::last_mark` meets its contract. Assumes nothing.
use mathlib.Core.Path.{◌≡◌, refl}
use native.Mathlib.Omega.{arith}
use Rattle.kinds.specs.Kinds.{kinds}
use Rattle.matching.specs.Extents.{nowhere}
use Rattle.refusals.specs.Marks.{last_mark}
use Rattle.refusals.specs.Over.{most}
use Rattle.refusals.proofs.Over.{most_more}
use Rattle.refusals.proofs.marks.last_mark.Goals as goal

pub loop-extent-init : goal.loop-extent-init
unfolding most
loop-extent-init c = refl

pub loop-extent-preserved : goal.loop-extent-preserved
unfolding nowhere
loop-extent-preserved c = rw (most_more _ c.loop-extent.extent-index, ← c.loop-extent.invariant) c.max-last.ensures

pub returns : goal.returns
unfolding last_mark
returns c =
    let e : c.loop-extent.extent-index ≡ kinds = omega arith in
    rw e at c.loop-extent.invariant
