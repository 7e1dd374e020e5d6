-- `refusals::sentences::put_missing_hour` meets its contract. Assumes nothing.
use Prim.Native.Nat.{◌+◌}
use mathlib.Core.Path.{◌≡◌}
use native.Mathlib.Omega.{arith}
use borrow.Author.Tests.{eq-eqb, ne_eqb}
use Rattle.laws.specs.Bytes.{bytes}
use Rattle.refusals.specs.Sentences.{missing_hour}
use Rattle.refusals.proofs.sentences.put_missing_hour.Goals as goal
use Rattle.refusals.proofs.sentences.put_missing_hour.Goals.{else-second-ge12-via-then-second-ge12+else-second-first}
use Rattle.refusals.proofs.sentences.put_missing_hour.Goals.{else-second-ge12-via-else-second-ge12}

pub returns-then-second-first : goal.returns-then-second-first
unfolding missing_hour bytes
returns-then-second-first c =
    let a = c.args in
    rw (eq-eqb a.second (a.first + 12) (omega arith)) c.bytes.ensures

pub returns-else-second-ge12 : goal.returns-else-second-ge12
unfolding missing_hour bytes
returns-else-second-ge12 c =
    let a = c.args in
    let d : a.second ≡ a.first + 12 → ⊥ = λ e. elim c.else-second-ge12.branch [
      | else-second-ge12-via-then-second-ge12+else-second-first w ↦ w.if-second-first.false (omega arith)
      | else-second-ge12-via-else-second-ge12 w ↦ absurd (omega (arith, w.if-second-ge12.false))
    ] in
    rw (ne_eqb a.second (a.first + 12) d) c.bytes-else-second-ge12.ensures
