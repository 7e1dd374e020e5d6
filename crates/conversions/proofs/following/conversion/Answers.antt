-- `conversions::following::conversion` meets its contract: after E and O each set of the code is that of its letters.
use Rattle.std.proofs.Common.{arith}
use Rattle.std.proofs.lemmas.Grind.{common_steps}
use Rattle.conversions.specs.Pieces.{conversion, after_E, after_O}
use Rattle.conversions.proofs.Sets.{after_E_set, after_O_set}
use Rattle.conversions.proofs.following.conversion.Goals as goal

pub returns-in-69 : goal.returns-in-69
unfolding conversion
returns-in-69 c = let e = c.paired.ensures after_E after_E_set in grind (arith, common_steps, e)

pub returns-in-79 : goal.returns-in-79
unfolding conversion
returns-in-79 c = let e = c.paired-in-79.ensures after_O after_O_set in grind (arith, common_steps, e)
