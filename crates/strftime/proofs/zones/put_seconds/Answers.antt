-- `strftime::zones::put_seconds` meets its contract.
use mathlib.Core.Path.{refl, sym, ap}
use native.Mathlib.Nat.{add-zero}
use native.Mathlib.Omega.{arith}
use lib.ListN.{length}
use Rattle.converted.proofs.Offsets.{epoch_unsaid, epoch_said}
use Rattle.strftime.proofs.zones.put_seconds.Goals as goal

pub put_whole-requires-clause-z_in_bounds : goal.put_whole-requires-clause-z_in_bounds
put_whole-requires-clause-z_in_bounds c =
    let r = c.seconds.ensures in
    let e = epoch_said c.args.moment c.in-Some.is (omega arith) r.value r.small in
    omega (arith, c.requires, ap length e)

pub returns-in-None : goal.returns-in-None
returns-in-None c =
    rw (epoch_unsaid c.args.moment c.in-None.is)
    record { ends = sym (add-zero _); stores = refl }

pub returns-in-Some : goal.returns-in-Some
returns-in-Some c =
    let r = c.seconds.ensures in
    rw (epoch_said c.args.moment c.in-Some.is (omega arith) r.value r.small)
    c.put_whole.ensures
