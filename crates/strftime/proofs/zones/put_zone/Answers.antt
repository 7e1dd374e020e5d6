-- `strftime::zones::put_zone` meets its contract.
use mathlib.Core.Path.{refl, sym, ap}
use native.Mathlib.Nat.{add-zero}
use native.Mathlib.Omega.{arith}
use borrow.Author.Rules.{rules}
use lib.Dec.{lit<}
use lib.ListN.{length}
use Rattle.values.proofs.Seconds.{kept, widened}
use Rattle.converted.proofs.Offsets.{zone_unsaid, zone_said}
use Rattle.strftime.proofs.zones.put_zone.Goals as goal

pub put_east-requires-clause-minutes_in_bounds : goal.put_east-requires-clause-minutes_in_bounds
put_east-requires-clause-minutes_in_bounds c =
    let n = kept (widened c.in-Some.minutes (search rules)) (lit< tt) in
    rw n.same (omega (arith, c.requires, ap length (zone_said c.args.moment c.in-Some.is)))

pub returns-in-None : goal.returns-in-None
returns-in-None c =
    rw (zone_unsaid c.args.moment c.in-None.is)
    record { ends = sym (add-zero _); stores = refl }

pub returns-in-Some : goal.returns-in-Some
returns-in-Some c =
    let n = kept (widened c.in-Some.minutes (search rules)) (lit< tt) in
    rw (zone_said c.args.moment c.in-Some.is) (rw n.same at c.put_east.ensures)
