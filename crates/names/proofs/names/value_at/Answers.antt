-- `names::names::value_at` meets its contract.
use native.Mathlib.Omega.{arith}
use Rattle.names.specs.Naming.{value_at}
use Rattle.names.proofs.names.value_at.Goals as goal

pub returns : goal.returns
unfolding value_at
returns c = omega arith
