-- `sheets::offset_field` meets its contract. Assumes nothing.
use Rattle.sheets.proofs.Offsets.{wide, sum_fits, number_is, number_most}
use Rattle.words.specs.Words.{offset_flag}
use Rattle.sheets.specs.Sheets.{offset_field}
use native.Mathlib.Omega.{arith}
use Rattle.sheets.proofs.offset_field.Goals as goal

pub overflow_cast-east : goal.overflow_cast-east
overflow_cast-east c = wide c.in-Some.east c.in-Some.known_told-1-own.given.0.1

pub overflow_add-east : goal.overflow_add-east
overflow_add-east c = sum_fits c.in-Some.east c.in-Some.known_told-1-own.given.0.1

pub overflow_add-result : goal.overflow_add-result
overflow_add-result c =
    record { fits = omega (arith, number_most c.in-Some.east c.in-Some.known_told-1-own.given.0.1 c.magnitude.ensures) }

pub returns-in-None : goal.returns-in-None
unfolding offset_flag offset_field
returns-in-None c = rw c.in-None.is (omega arith, omega arith)

pub returns-in-Some : goal.returns-in-Some
unfolding offset_flag offset_field
returns-in-Some c =
    rw c.in-Some.is (
      omega (arith, number_is c.in-Some.east c.in-Some.known_told-1-own.given.0.1 c.magnitude.ensures),
      omega
          (arith, number_most c.in-Some.east c.in-Some.known_told-1-own.given.0.1 c.magnitude.ensures),
    )
