-- `format::opening::store` meets its contract: past the end nothing changes.
use mathlib.Core.Path.{sym}
use lib.Seq.{set_out}
use Rattle.format.proofs.opening.store.Goals as goal

pub returns-else-n-out : goal.returns-else-n-out
returns-else-n-out c = sym (set_out _ _ _ c.if-n-out.false)
