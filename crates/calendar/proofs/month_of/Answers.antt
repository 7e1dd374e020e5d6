-- `calendar::month_of` meets its contract. Assumes nothing.
use Prim.Native.Nat.{suc, ◌+◌, ◌-◌, ◌/◌, ◌≤◌, ◌<◌}
use mathlib.Core.Path.{◌≡◌, ap}
use native.Mathlib.Omega.{arith}
use Rattle.calendar.specs.Calendar.{sum, month_length}
use Rattle.calendar.proofs.Months.{month_right, month_short}
use Rattle.calendar.proofs.month_of.Goals as goal

pub returns-then-n-days_before_month : goal.returns-then-n-days_before_month
returns-then-n-days_before_month c =
    let y = c.args.year in
    let n = c.args.n in
    let q = (n - 1) / 31 in
    let next : q + 1 + 1 - 1 ≡ suc q = omega arith in
    let ends : n ≤ sum (month_length y) (suc q)
    = omega (arith, c.days_before_month.ensures, ap (sum (month_length y)) next) in
    omega (arith, month_right y n (omega arith) (omega arith) ends)

pub returns-else-n-days_before_month : goal.returns-else-n-days_before_month
returns-else-n-days_before_month c =
    let y = c.args.year in
    let n = c.args.n in
    let q = (n - 1) / 31 in
    let next : q + 1 + 1 - 1 ≡ suc q = omega arith in
    let ends : sum (month_length y) (suc q) < n
    = omega (arith, c.days_before_month.ensures, ap (sum (month_length y)) next) in
    omega (arith, month_short y n (omega arith) (omega arith) ends)
