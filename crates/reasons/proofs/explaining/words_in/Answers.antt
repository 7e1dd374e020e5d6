-- `reasons::explaining::words_in` meets its contract. Assumes nothing.
use Prim.Native.Nat.{◌+◌}
use native.Mathlib.Omega.{arith}
use Rattle.reasons.proofs.Ranges.{last_few}
use Rattle.reasons.proofs.Words.{Filled, filled_none, filled_all, filled_said, filled_unsaid}
use Rattle.reasons.proofs.explaining.words_in.Goals as goal
use Rattle.reasons.proofs.explaining.words_in.Goals.{Joined-left-kind-ne0, then-left-kind-ne0, else-left-kind-ne0}

pub loop-kind-init : goal.loop-kind-init
loop-kind-init c =
    let a = c.args in
    rw (c.nowhere-words.ensures, c.first_kind-kind.ensures) (filled_none a.about a.left a.elements.now a.s.now)

pub bounds-left-kind : goal.bounds-left-kind
bounds-left-kind c = omega (arith, last_few c.args.about)

-- one kind more
turn : (c : Joined-left-kind-ne0) →
    let a = c.args in
    Filled a.about a.left a.elements.now a.s.now c.if-left-kind-ne0.words (c.loop-kind.kind + 1)
turn c =
    let f = c.loop-kind.invariant in
    elim c.if-left-kind-ne0.branch [
      | then-left-kind-ne0 w ↦
          rw w.words-is (filled_said _ _ _ _ f (omega arith) (omega arith) w.if-left-kind-ne0.true w.first_said.ensures)
      | else-left-kind-ne0 w ↦
          rw w.words-is (filled_unsaid _ _ _ _ f (omega arith) (omega arith) w.if-left-kind-ne0.false)
    ]

pub loop-kind-preserved : goal.loop-kind-preserved
loop-kind-preserved c = turn (goal.at.loop-kind-preserved c).Joined-left-kind-ne0

pub returns-after-left-kind-ne0 : goal.returns-after-left-kind-ne0
returns-after-left-kind-ne0 c =
    filled_all _ _ _ _ (turn (goal.at.returns-after-left-kind-ne0 c).Joined-left-kind-ne0) (omega arith)

pub returns : goal.returns
returns c = filled_all _ _ _ _ c.loop-kind.invariant (omega arith)
