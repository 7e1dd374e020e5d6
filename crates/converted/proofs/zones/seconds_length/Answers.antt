-- `converted::zones::seconds_length` meets its contract.
use mathlib.Core.Path.{sym, ap, ◌∙◌}
use native.Mathlib.Omega.{arith}
use lib.ListN.{length}
use Rattle.converted.proofs.Offsets.{epoch_unsaid, epoch_said}
use Rattle.converted.proofs.zones.seconds_length.Goals as goal

pub returns-in-None : goal.returns-in-None
returns-in-None c = ap length (sym (epoch_unsaid c.args.moment c.in-None.is))

pub returns-in-Some : goal.returns-in-Some
returns-in-Some c =
    let r = c.seconds.ensures in
    c.whole_length.ensures ∙ ap length (sym (epoch_said c.args.moment c.in-Some.is (omega arith) r.value r.small))
