-- `strftime::zones::put_long` meets its contract: the digits before the last nine, and these.
use native.Mathlib.Omega.{arith}
use Rattle.laws.proofs.Stores.{then}
use Rattle.text.proofs.Fill.{plain_parts}
use Rattle.converted.proofs.Offsets.{long_length}
use Rattle.strftime.proofs.Offsets.{kept}
use Rattle.strftime.proofs.zones.put_long.Goals as goal

pub put_plain-middle-requires : goal.put_plain-middle-requires
put_plain-middle-requires c =
    omega (arith, long_length c.args.n (omega arith), c.requires.n_in_bounds)

pub put_number-requires : goal.put_number-requires
put_number-requires c =
    let p = c.put_plain-middle.ensures in
    omega (arith, p.ends, kept p, long_length c.args.n (omega arith), c.requires.n_in_bounds)

pub returns : goal.returns
returns c =
    rw (plain_parts 9 c.args.n (omega arith))
    (then c.put_plain-middle.ensures c.put_number.ensures)
