use Prim.Native.Nat.{◌+◌, ◌-◌}
use mathlib.Core.Path.{◌≡◌}
use Rattle.laws.specs.Lists.{range}
use Rattle.reasons.specs.Quarrels.{quarrelling, all_tried}
use Rattle.reasons.specs.Private.{last_kind}
use Rattle.reasons.proofs.quarrels.quarrelling.Given as goal

abbrev pub invariant-loop-kind : goal.invariant-loop-kind
invariant-loop-kind l =
    all_tried l.about (range l.kind (last_kind l.about + 1 - l.kind)) l.left ≡ quarrelling l.about l.initial.left
