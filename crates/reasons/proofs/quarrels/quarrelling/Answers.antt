-- `reasons::quarrels::quarrelling` meets its contract. Assumes nothing.
use mathlib.Core.Path.{sym, ◌∙◌}
use native.Mathlib.Omega.{arith}
use Rattle.reasons.specs.Quarrels.{quarrelling}
use Rattle.reasons.proofs.Ranges.{kinds_row, last_few}
use Rattle.reasons.proofs.Trying.{row_more, row_done}
use Rattle.reasons.proofs.quarrels.quarrelling.Goals as goal

pub loop-kind-init : goal.loop-kind-init
unfolding quarrelling
loop-kind-init c = rw (c.first_kind-kind.ensures, kinds_row c.args.about)

pub tried-left-requires : goal.tried-left-requires
tried-left-requires c = omega (arith, last_few c.args.about)

pub loop-kind-preserved : goal.loop-kind-preserved
loop-kind-preserved c =
    let l = c.loop-kind in
    rw c.tried-left.ensures (sym (row_more _ l.kind _ l.left (omega arith)) ∙ l.invariant)

-- the last kind
pub returns-2 : goal.returns-2
returns-2 c =
    let l = c.loop-kind in
    rw c.tried-left.ensures
    (sym (row_done _ _ _ _ (omega arith)) ∙ sym (row_more _ l.kind _ l.left (omega arith)) ∙ l.invariant)

pub returns : goal.returns
returns c = let l = c.loop-kind in sym (row_done _ l.kind _ l.left (omega arith)) ∙ l.invariant
