use mathlib.Core.Path.{◌≡◌}
use lib.ListN.{get_or}
use Rattle.matching.specs.Extents.{nowhere}
use Rattle.refusals.specs.Over.{most}
use Rattle.refusals.proofs.marks.last_mark.Given as goal

abbrev pub invariant-loop-extent : goal.invariant-loop-extent
invariant-loop-extent l = l.last ≡ most (λ k. (get_or l.extents k nowhere).next) l.extent-index
