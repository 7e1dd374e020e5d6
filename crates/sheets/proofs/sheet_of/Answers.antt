-- `sheets::sheet_of` meets its contract. Assumes nothing.
use Rattle.sheets.specs.Sheets.{sheet_widths, sheet_from, sheet_of}
use Rattle.sheets.specs.Packing.{bits, unpacked}
use Rattle.sheets.proofs.sheet_of.Goals as goal

pub returns : goal.returns
unfolding sheet_of sheet_from sheet_widths unpacked bits
returns c =
    rw (
      c.date_of-date.ensures,
      c.said_from.ensures,
      c.said_from-2.ensures,
      c.said_from-3.ensures,
      c.field_offset.ensures,
    )
