-- `strftime::write_opened` meets its contract: where the widest elements have room, or the bytes measured have, all is put.
use Prim.Native.Nat.{◌≤◌}
use native.Mathlib.Omega.{arith}
use lib.ListN.{length}
use Rattle.strftime.specs.Writing.{text}
use Rattle.strftime.proofs.Order.{too_small, fits}
use Rattle.strftime.proofs.write_opened.Goals as goal
use Rattle.strftime.proofs.write_opened.Goals.{Joined-out-most, then-out-most+else-out-needed, else-out-most}

room : (c : Joined-out-most) → length (text c.args.valid.moment c.args.elements.now) ≤ length c.args.out.now
room c =
    elim c.if-out-most.branch [
      | then-out-most+else-out-needed w ↦ omega arith
      | else-out-most w ↦ omega (arith, c.requires.most_bound)
    ]

pub returns-then-out-needed : goal.returns-then-out-needed
returns-then-out-needed c =
    let a = c.args in
    too_small (text a.valid.moment a.elements.now) a.out.now c.measure-needed.ensures (omega arith)

pub returns : goal.returns
returns c = fits _ _ (room (goal.at.returns c).Joined-out-most) c.put_elements-n.ensures
