-- `text::digits::write_leading` meets its contract. The invariant: the places before i, written before what stands from i on,
-- give what is to be written.
use mathlib.Core.Path.{◌≡◌, ◌∙◌}
use native.Mathlib.Omega.{arith}
use Rattle.text.specs.Digits.{leading}
use Rattle.text.proofs.Decimals.{place}
use Rattle.text.proofs.digits.write_leading.Goals as goal

pub loop-i-preserved : goal.loop-i-preserved
loop-i-preserved c =
    let l = c.loop-i in
    place c.args.fill l.rest l.out l.i (omega arith) (omega arith) c.leading_byte.ensures ∙ l.invariant

pub returns : goal.returns
unfolding leading
returns c = let z : c.loop-i.i ≡ 0 = omega arith in rw z at c.loop-i.invariant
