use mathlib.Core.Path.{◌≡◌}
use mathlib.Core.List.{◌++◌}
use lib.ListN.{length, drop}
use Rattle.text.specs.Digits.{leading}
use Rattle.text.proofs.digits.write_leading.Given as goal

abbrev pub invariant-loop-i : goal.invariant-loop-i
invariant-loop-i l = leading l.fill l.i l.rest ++ drop l.i l.out ≡ leading l.fill (length l.initial.out) l.n
