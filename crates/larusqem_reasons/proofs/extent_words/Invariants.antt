use Prim.Native.Nat.{◌+◌, ◌-◌, ◌*◌}
use mathlib.Core.List.{◌∷◌}
use mathlib.Core.Path.{◌≡◌}
use lib.Seq.{sets}
use Rattle.laws.specs.Lists.{range}
use Rattle.larusqem_reasons.specs.Reasons.{told, extent_words}
use Rattle.larusqem_reasons.proofs.extent_words.Given as goal

abbrev pub invariant-loop-kind : goal.invariant-loop-kind
invariant-loop-kind l =
    sets l.words (2 * l.kind + 1) (extent_words l.extents (range l.kind (told - l.kind))) ≡ 0 ∷ extent_words l.extents (range 0 told)
