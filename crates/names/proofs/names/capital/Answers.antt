-- `names::names::capital` meets its contract: std's cases are the definition's.
use mathlib.Core.Path.{◌∙◌}
use Rattle.names.proofs.Cased.{raised}
use Rattle.names.proofs.names.capital.Goals as goal

pub returns : goal.returns
returns c = c.to_ascii_uppercase.ensures.value ∙ raised c.args.b
