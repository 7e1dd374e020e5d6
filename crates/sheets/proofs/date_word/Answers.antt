-- `sheets::date_word` meets its contract. Assumes nothing.
use Rattle.sheets.specs.Sheets.{date_word}
use Rattle.sheets.specs.Packing.{bits, packed}
use native.Mathlib.Omega.{arith}
use Rattle.sheets.proofs.date_word.Goals as goal

pub returns : goal.returns
unfolding date_word packed bits
returns c = omega arith
