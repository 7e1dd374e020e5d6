-- `text::space::skip_space` meets its contract. The invariant: the place reached and the white space from there on come to what
-- is to be shown.
use native.Mathlib.Numerals.{add-one}
use native.Mathlib.Omega.{arith}
use Rattle.text.proofs.Spaces.{end, stop, more}
use Rattle.text.proofs.space.skip_space.Goals as goal

pub returns-then-not-is_space : goal.returns-then-not-is_space
returns-then-not-is_space c =
    omega (arith, stop c.args.s.now c.loop-i.i (omega arith) c.is_space.ensures c.if-not-is_space.true)

pub loop-i-preserved : goal.loop-i-preserved
loop-i-preserved c =
    rw add-one
    (omega (arith, more c.args.s.now c.loop-i.i (omega arith) c.is_space.ensures c.if-not-is_space.false))

pub returns : goal.returns
returns c =
    let s = c.args.s.now in
    let none = end s c.loop-i.i (omega arith) in
    grind (arith, c.max.ensures, end s c.args.at, c.loop-i.auto.i-end)
