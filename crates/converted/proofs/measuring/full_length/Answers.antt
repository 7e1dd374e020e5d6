-- `converted::measuring::full_length` meets its contract.
use mathlib.Core.Path.{ap, ◌∙◌}
use lib.ListN.{length}
use Rattle.converted.proofs.Lengths.{named}
use Rattle.converted.proofs.measuring.full_length.Goals as goal

pub returns : goal.returns
returns c = c.name_length.ensures ∙ ap length (named _ _ c.place_for.ensures)
