-- `format::opening::open` meets its contract: a format that is not too long has no more elements than are counted.
use native.Mathlib.Omega.{arith}
use lib.Dec.{lit<}
use Rattle.format.specs.Opening.{sign_at, opening}
use Rattle.format.proofs.Bound.{bound}
use Rattle.format.proofs.opening.open.Goals as goal

pub open_to-requires : goal.open_to-requires
unfolding sign_at opening
open_to-requires c =
    record {
      short = omega arith;
      sign = lit< tt;
      few = omega (arith, bound c.args.side c.args.format.now);
    }
