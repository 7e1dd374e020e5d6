use Prim.Native.Nat.{◌≤◌}
use mathlib.Core.Path.{◌≡◌}
use lib.ListN.{length, drop}
use Rattle.matching.specs.Extents.{first_said}
use Rattle.matching.proofs.extents.first_said.Given as goal

abbrev pub invariant-loop-element : goal.invariant-loop-element
invariant-loop-element l =
    (l.at ≤ length l.s)
    × (first_said l.kind (drop l.element-index l.elements) l.s l.at ≡ first_said l.kind l.elements l.s 0)
