-- `larusqem::larusqem_days` meets its contract: the calendar's own count.
use Rattle.calendar.specs.Dates.{ends}
use mathlib.Core.Path.{ap}
use Rattle.calendar.specs.declared.Ends.{Ends}
use Rattle.larusqem.proofs.larusqem_days.Goals as goal

pub returns : goal.returns
unfolding ends
returns c = ap (λ (e : Ends). e.days) c.ends.ensures
