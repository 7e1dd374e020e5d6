-- `names::names::fold` meets its contract: std's cases are the definition's.
use mathlib.Core.Path.{◌∙◌}
use Rattle.names.proofs.Cased.{lowered}
use Rattle.names.proofs.names.fold.Goals as goal

pub returns : goal.returns
returns c = c.to_ascii_lowercase.ensures.value ∙ lowered c.args.b
