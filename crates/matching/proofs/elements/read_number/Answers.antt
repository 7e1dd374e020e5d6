-- `matching::elements::read_number` meets its contract. Assumes nothing.
use native.Mathlib.Omega.{arith}
use Rattle.matching.proofs.Ways.{number_end}
use Rattle.matching.proofs.elements.read_number.Goals as goal

pub overflow_add-result : goal.overflow_add-result
overflow_add-result c =
    let a = c.args in
    omega (
      arith,
      number_end a.c a.s.now a.at (omega arith) c.skip_space-start.ensures c.read_digits-digits.ensures (omega arith),
    )
