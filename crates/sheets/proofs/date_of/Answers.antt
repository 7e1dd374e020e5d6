-- `sheets::date_of` meets its contract. Assumes nothing.
use mathlib.Core.Path.{refl}
use Rattle.sheets.specs.Sheets.{sheet_widths, sheet_from, sheet_of}
use Rattle.sheets.specs.Packing.{bits, unpacked}
use Rattle.sheets.proofs.date_of.Goals as goal

pub returns : goal.returns
unfolding sheet_of sheet_from sheet_widths unpacked bits
returns c = refl
