-- `refusals::marks::is_marked` meets its contract. Assumes nothing.
use native.Mathlib.Omega.{arith}
use Rattle.std.proofs.Common.{rules}
use Rattle.matching.specs.Extents.{nowhere}
use Rattle.refusals.specs.Marks.{covers, is_marked}
use Rattle.refusals.proofs.Over.{some_is}
use Rattle.refusals.proofs.marks.is_marked.Goals as goal

pub returns : goal.returns
unfolding is_marked nowhere
returns c = some_is (λ x. covers x c.args.offset) c.args.extents.now nowhere (omega arith) (search rules) (search rules)
