-- `strftime::zones::put_east` meets its contract: the sign, then hours and minutes.
use native.Mathlib.Omega.{arith}
use Rattle.converted.proofs.Offsets.{east_length}
use Rattle.strftime.proofs.Offsets.{kept, puts_east}
use Rattle.strftime.proofs.zones.put_east.Goals as goal

pub put_byte-next-requires : goal.put_byte-next-requires
put_byte-next-requires c =
    omega (arith, c.requires.minutes_in_bounds, east_length c.args.minutes)

pub put_hours-requires-clause-at_in_bounds : goal.put_hours-requires-clause-at_in_bounds
put_hours-requires-clause-at_in_bounds c =
    let p = c.put_byte-next.ensures in
    omega (arith, c.requires.minutes_in_bounds, east_length c.args.minutes, p.ends, kept p)

pub returns : goal.returns
returns c =
    puts_east c.args.minutes c.ranges.minutes c.magnitude.ensures c.zone_sign.ensures c.put_byte-next.ensures
    c.put_hours.ensures
