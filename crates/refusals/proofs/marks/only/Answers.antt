-- `refusals::marks::only` meets its contract. Assumes nothing.
use Rattle.matching.specs.Extents.{nowhere}
use Rattle.refusals.proofs.Marked.{only_one}
use Rattle.refusals.proofs.marks.only.Goals as goal

pub returns : goal.returns
unfolding nowhere
returns c k = only_one 18 c.args.offset k
