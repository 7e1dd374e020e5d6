-- `converted::zones::long_count` meets its contract.
use Prim.Native.Nat.{◌/◌}
use native.Mathlib.Omega.{arith}
use lib.Dec.{lit≤}
use Rattle.text.proofs.Fill.{plain_most}
use Rattle.converted.proofs.Offsets.{long_length}
use Rattle.converted.proofs.zones.long_count.Goals as goal

pub overflow_add-result : goal.overflow_add-result
overflow_add-result c =
    omega (arith, c.digit_count-2.ensures, plain_most 10 (c.args.n / 1000000000) (lit≤ tt) (omega arith))

pub returns : goal.returns
returns c = omega (arith, c.digit_count-2.ensures, long_length c.args.n (omega arith))
