-- `words::offset_flag` meets its contract.
use Rattle.std.proofs.Common.{arith}
use Rattle.std.proofs.lemmas.Grind.{common_steps}
use Rattle.words.specs.Words.{offset_flag}
use Rattle.words.proofs.offset_flag.Goals as goal

pub returns : goal.returns
unfolding offset_flag
returns c = grind (arith, common_steps)
