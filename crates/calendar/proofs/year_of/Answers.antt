-- `calendar::year_of` meets its contract. Assumes nothing.
use Prim.Native.Nat.{suc, ◌+◌, ◌-◌, ◌*◌, ◌/◌}
use native.Mathlib.Omega.{arith}
use Rattle.calendar.proofs.Years.{guess_right, guess_short, days_before_is}
use Rattle.calendar.proofs.year_of.Goals as goal

pub returns-then-k-days_before : goal.returns-then-k-days_before
returns-then-k-days_before c =
    let k = c.args.k in
    let q = (k - 1) * 400 / 146097 in
    let ends = days_before_is (q + 1 + 1) (suc q) (omega arith) in
    omega (arith, c.saturating_sub.ensures, guess_right k (omega (arith, rw c.saturating_sub.ensures at c.days_before.ensures.0, ends)))

pub returns-else-k-days_before : goal.returns-else-k-days_before
returns-else-k-days_before c =
    let k = c.args.k in
    let q = (k - 1) * 400 / 146097 in
    let ends = days_before_is (q + 1 + 1) (suc q) (omega arith) in
    omega (arith, c.saturating_sub.ensures, guess_short k (omega (arith, rw c.saturating_sub.ensures at c.days_before.ensures.0, ends)))
