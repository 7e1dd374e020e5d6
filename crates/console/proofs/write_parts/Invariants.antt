-- Each part goes on in the input: the measure is what is left of it.
use Rattle.std.proofs.Common.{length, ◌-◌}
use Rattle.console.proofs.write_parts.Given as goal

abbrev pub decreases-loop-from : goal.decreases-loop-from
decreases-loop-from g l = length l.input - l.from
