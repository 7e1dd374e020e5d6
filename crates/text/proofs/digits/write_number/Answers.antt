-- `text::digits::write_number` meets its contract: the last digit is stored, and then the places before it.
use Prim.Native.Nat.{◌-◌, ◌<◌, min}
use mathlib.Core.Path.{◌≡◌, ◌∙◌, sym}
use native.Mathlib.Omega.{arith}
use borrow.Author.Tests.{eqb-true, eqb-false}
use lib.ListN.{length, length-take, length-set}
use Rattle.text.proofs.Decimals.{nothing, whole}
use Rattle.text.proofs.digits.write_number.Goals as goal

pub returns-then-is_empty : goal.returns-then-is_empty
returns-then-is_empty c =
    nothing c.args.fill c.args.n c.args.out.now (eqb-true _ _ (sym c.is_empty.ensures ∙ c.if-is_empty.true))

pub returns : goal.returns
returns c =
    let a = c.args in
    let some : 0 < length a.out.now = omega (arith, eqb-false (length a.out.now) 0 (sym c.is_empty.ensures ∙ c.if-is_empty.false)) in
    let before : min (length a.out.now - 1) (length a.out.now) ≡ length a.out.now - 1 = omega arith in
    whole a.fill a.n a.out.now some c.last_digit.ensures (simp (length-take, length-set, before) at c.write_leading.ensures)
