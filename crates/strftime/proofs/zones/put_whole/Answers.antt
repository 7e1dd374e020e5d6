-- `strftime::zones::put_whole` meets its contract: a minus sign below zero, then the digits.
use Prim.Native.Nat.{ℕ}
use mathlib.Core.Path.{ap}
use native.Mathlib.Omega.{arith}
use lib.ListN.{length}
use Rattle.text.specs.Digits.{plain}
use Rattle.converted.proofs.Offsets.{whole_negative, whole_positive, size, sign}
use Rattle.strftime.proofs.Offsets.{kept, puts_negative, puts_positive}
use Rattle.strftime.proofs.zones.put_whole.Goals as goal

pub put_byte-next-requires : goal.put_byte-next-requires
put_byte-next-requires c =
    let below = sign c.args.z c.ranges.z c.is_negative.ensures c.if-is_negative.true in
    let n = whole_negative c.args.z below in
    omega (arith, c.requires.z_in_bounds, ap length n)

pub put_long-requires-clause-n_in_bounds : goal.put_long-requires-clause-n_in_bounds
put_long-requires-clause-n_in_bounds c =
    let z = c.args.z in
    let e = size z c.ranges.z c.magnitude.ensures in
    let n = whole_negative z (sign z c.ranges.z c.is_negative.ensures c.if-is_negative.true) in
    let p = c.put_byte-next.ensures in
    omega (arith, c.requires.z_in_bounds, ap length n, ap (λ (k : ℕ). length (plain k)) e, p.ends, kept p)

pub returns-then-is_negative : goal.returns-then-is_negative
returns-then-is_negative c =
    puts_negative c.args.z c.ranges.z c.magnitude.ensures
    (sign c.args.z c.ranges.z c.is_negative.ensures c.if-is_negative.true) c.put_byte-next.ensures
    c.put_long.ensures

pub put_long-requires-2-clause-n_in_bounds : goal.put_long-requires-2-clause-n_in_bounds
put_long-requires-2-clause-n_in_bounds c =
    let z = c.args.z in
    let e = size z c.ranges.z c.magnitude-2.ensures in
    let n = whole_positive z (sign z c.ranges.z c.is_negative.ensures c.if-is_negative.false) in
    omega (arith, c.requires.z_in_bounds, ap length n, ap (λ (k : ℕ). length (plain k)) e)

pub returns : goal.returns
returns c =
    puts_positive c.args.z c.ranges.z c.magnitude-2.ensures
    (sign c.args.z c.ranges.z c.is_negative.ensures c.if-is_negative.false) c.put_long-2.ensures
