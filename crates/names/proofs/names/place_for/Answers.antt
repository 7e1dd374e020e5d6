-- `names::names::place_for` meets its contract: below the first value a difference is 0.
use native.Mathlib.Omega.{arith}
use Rattle.names.specs.Naming.{place_for}
use Rattle.names.proofs.names.place_for.Goals as goal

pub returns : goal.returns
unfolding place_for
returns c = omega (arith, c.saturating_sub.ensures)
