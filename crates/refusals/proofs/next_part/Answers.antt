-- `refusals::next_part` meets its contract. Assumes nothing.
use native.Mathlib.Omega.{arith}
use lib.ListN.{length}
use Rattle.lists.proofs.Puts.{part_start}
use Rattle.refusals.proofs.Whole.{too_long_lem}
use Rattle.refusals.proofs.next_part.Goals as goal

pub returns-then-input-gt-LONGEST_INPUT : goal.returns-then-input-gt-LONGEST_INPUT
returns-then-input-gt-LONGEST_INPUT c =
    let a = c.args in
    let s = a.input.now in
    record {
      puts = rw (too_long_lem a.opened a.elements.now s a.from (length s) (omega arith)) (part_start _ a.out.now);
      goes = λ h. h;
    }
