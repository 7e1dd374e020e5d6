-- `text::digits::digit_count` meets its contract. The invariant: what was counted and the digits that are left are one more than the
-- number's digits; and what was counted is at most one more than what the rest has lost, so it fits.
use native.Mathlib.Omega.{arith}
use Rattle.text.proofs.Fill.{length_one, length_more}
use Rattle.text.proofs.digits.digit_count.Goals as goal

pub loop-rest-init : goal.loop-rest-init
loop-rest-init c = (omega arith, omega arith)

pub loop-rest-preserved : goal.loop-rest-preserved
loop-rest-preserved c =
    let l = c.loop-rest in
    (omega arith, omega (arith, length_more l.rest (omega arith)))

pub returns : goal.returns
returns c = let l = c.loop-rest in omega (arith, length_one l.rest (omega arith))
