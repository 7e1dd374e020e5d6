-- `matching::elements::read_byte` meets its contract. Assumes nothing.
use native.Mathlib.Omega.{arith}
use lib.ListN.{drop, length-drop}
use Rattle.matching.proofs.Lengths.{spaces_most}
use Rattle.matching.proofs.Ways.{byte_space}
use Rattle.matching.proofs.elements.read_byte.Goals as goal

pub returns-then-is_space : goal.returns-then-is_space
returns-then-is_space c =
    let a = c.args in
    let s = a.s.now in
    byte_space a.b s a.at c.is_space.ensures c.if-is_space.true
    (omega (arith, c.min.ensures, c.skip_space.ensures, spaces_most (drop a.at s), length-drop a.at s))
