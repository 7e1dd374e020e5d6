-- `converted::styles::fill_by` meets its contract: the definition makes the same tests.
use native.Mathlib.Omega.{arith}
use Rattle.std.proofs.lemmas.Bool.Decides.{nat_tests}
use Rattle.converted.specs.Converted.{fill_by}
use Rattle.converted.proofs.styles.fill_by.Goals as goal

pub returns-in-95 : goal.returns-in-95
unfolding fill_by
returns-in-95 c = rw c.in-95.is

pub returns-in-48 : goal.returns-in-48
unfolding fill_by
returns-in-48 c = rw c.in-48.is

pub returns-in_default : goal.returns-in_default
unfolding fill_by
returns-in_default c = grind (arith, nat_tests)
