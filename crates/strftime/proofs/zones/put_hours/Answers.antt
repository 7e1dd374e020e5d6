-- `strftime::zones::put_hours` meets its contract.
use Prim.Native.Nat.{◌/◌}
use native.Mathlib.Omega.{arith}
use Rattle.laws.proofs.Stores.{then}
use Rattle.text.proofs.ReadBack.{filled_length}
use Rattle.converted.specs.Zones.{hours_minutes}
use Rattle.strftime.proofs.Offsets.{kept}
use Rattle.strftime.proofs.zones.put_hours.Goals as goal

pub put_number-requires : goal.put_number-requires
put_number-requires c =
    let p = c.put_number-middle.ensures in
    omega (arith, p.ends, kept p, filled_length 48 2 (c.args.minutes / 60), c.requires.at_in_bounds)

pub returns : goal.returns
unfolding hours_minutes
returns c = then c.put_number-middle.ensures c.put_number.ensures
