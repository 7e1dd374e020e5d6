-- `names::names::folded` meets its contract.
use mathlib.Core.Path.{refl}
use lib.ListN.{get_or-eq_default}
use Rattle.names.specs.Case.{fold}
use Rattle.names.proofs.names.folded.Goals as goal

pub returns-else-i-s : goal.returns-else-i-s
unfolding fold
returns-else-i-s c =
    let a = c.args in
    rw (get_or-eq_default a.s.now 0 {n = a.i} c.if-i-s.false) refl
