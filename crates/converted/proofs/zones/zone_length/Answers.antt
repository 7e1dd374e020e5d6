-- `converted::zones::zone_length` meets its contract.
use mathlib.Core.Path.{sym}
use Rattle.converted.specs.Zones.{zone}
use Rattle.converted.proofs.Offsets.{east_length}
use Rattle.converted.proofs.zones.zone_length.Goals as goal

pub returns-in-None : goal.returns-in-None
unfolding zone
returns-in-None c = rw c.in-None.is

pub returns-in-Some : goal.returns-in-Some
unfolding zone
returns-in-Some c = rw c.in-Some.is (sym (east_length _))
