-- `matching::elements::read_element` meets its contract. Assumes nothing.
use native.Mathlib.Omega.{arith}
use Rattle.conversions.proofs.Small.{conversion_small}
use Rattle.matching.proofs.elements.read_element.Goals as goal

pub read_conversion-requires : goal.read_conversion-requires
read_conversion-requires c = (rw c.conversion_of.ensures (conversion_small _).width, omega arith)
