-- `sheets::week_of_date` meets its contract. Assumes nothing.
use Rattle.sheets.specs.Sheets.{week_widths, week_of_date}
use Rattle.sheets.specs.Packing.{bits, packed}
use native.Mathlib.Omega.{arith}
use Rattle.sheets.proofs.week_of_date.Goals as goal

pub returns : goal.returns
unfolding week_of_date week_widths packed bits
returns c = omega (arith, c.iso_year.ensures, c.iso_week.ensures)
