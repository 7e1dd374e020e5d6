-- `values::Moment::seconds` meets its contract. Assumes nothing.
use mathlib.Core.Path.{◌∙◌}
use native.Mathlib.Omega.{arith}
use lib.Dec.{lit<}
use Rattle.values.proofs.Seconds.{fits, kept, day_seconds, hour_seconds, minute_seconds}
use Rattle.values.proofs.Seconds.{to_minutes, to_seconds, sum_is, small}
use Rattle.values.proofs.Moment.seconds.Goals as goal

pub overflow_add-result-2 : goal.overflow_add-result-2
overflow_add-result-2 c =
    let a = c in
    fits
    (to_minutes
    (day_seconds c.day_number.result (omega arith))
    (hour_seconds a.args.self.hour (omega arith))
    (minute_seconds a.args.self.minute a.args.east (omega arith) a.ranges.east)
    a.args.self.second
    (omega arith))
    (lit< tt)

pub overflow_add-result-3 : goal.overflow_add-result-3
overflow_add-result-3 c =
    let a = c in
    fits
    (to_seconds
    (day_seconds c.day_number.result (omega arith))
    (hour_seconds a.args.self.hour (omega arith))
    (minute_seconds a.args.self.minute a.args.east (omega arith) a.ranges.east)
    a.args.self.second
    (omega arith))
    (lit< tt)

pub returns : goal.returns
returns c =
    let a = c in
    let d = c.day_number in
    let sum = kept
    (to_seconds
    (day_seconds d.result (omega arith))
    (hour_seconds a.args.self.hour (omega arith))
    (minute_seconds a.args.self.minute a.args.east (omega arith) a.ranges.east)
    a.args.self.second
    (omega arith))
    (lit< tt) in
    record { value = sum.same ∙ sum_is a.args.self a.args.east d.ensures; small = small sum (lit< tt) }
