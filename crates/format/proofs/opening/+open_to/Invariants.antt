use Prim.Native.Nat.{◌-◌}
use lib.ListN.{length}
use Rattle.format.proofs.Turns.{Going}
use Rattle.format.proofs.opening.+open_to.Given as goal

abbrev pub decreases-open_to : goal.decreases-open_to
decreases-open_to l = l.depth

abbrev pub invariant-loop-i : goal.invariant-loop-i
invariant-loop-i l = Going l.side l.depth l.sign l.format l.i l.out l.n l.initial.out l.from

abbrev pub decreases-loop-i : goal.decreases-loop-i
decreases-loop-i l = length l.format - l.i
