use Prim.Native.Nat.{◌≤◌}
use mathlib.Core.Path.{◌≡◌}
use lib.ListN.{length, drop}
use Rattle.matching.specs.Steps.{here, both, start, no_forms, read_all}
use Rattle.matching.proofs.steps.read_all.Given as goal

abbrev pub invariant-loop-element : goal.invariant-loop-element
invariant-loop-element l =
    (l.at ≤ length l.s)
    × (read_all (drop l.element-index l.elements) l.s (here l.said l.at) (both l.weekday l.month) ≡ read_all l.elements l.s start no_forms)
