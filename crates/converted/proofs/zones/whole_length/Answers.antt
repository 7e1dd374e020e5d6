-- `converted::zones::whole_length` meets its contract.
use Prim.Native.Nat.{ℕ}
use mathlib.Core.Path.{ap}
use native.Mathlib.Omega.{arith}
use lib.Dec.{lit≤}
use lib.ListN.{length}
use Rattle.text.specs.Digits.{plain}
use Rattle.text.proofs.Fill.{plain_most}
use Rattle.converted.proofs.Offsets.{whole_negative, whole_positive, size, sign}
use Rattle.converted.proofs.zones.whole_length.Goals as goal

pub overflow_add-result : goal.overflow_add-result
overflow_add-result c =
    let e = size c.args.z c.ranges.z c.magnitude.ensures in
    omega (arith, c.long_count-digits.ensures, plain_most 15 c.magnitude.result (lit≤ tt) (omega (arith, e, c.requires)))

pub returns-then-is_negative : goal.returns-then-is_negative
returns-then-is_negative c =
    let l = ap (λ (n : ℕ). length (plain n)) (size c.args.z c.ranges.z c.magnitude.ensures) in
    rw (whole_negative c.args.z (sign c.args.z c.ranges.z c.is_negative.ensures c.if-is_negative.true))
    (omega (arith, c.long_count-digits.ensures, l))

pub returns : goal.returns
returns c =
    let l = ap (λ (n : ℕ). length (plain n)) (size c.args.z c.ranges.z c.magnitude.ensures) in
    rw (whole_positive c.args.z (sign c.args.z c.ranges.z c.is_negative.ensures c.if-is_negative.false))
    (omega (arith, c.long_count-digits.ensures, l))
