-- `sheets::unpack` meets its contract. Assumes nothing.
use Rattle.sheets.specs.Sheets.{unpacking}
use mathlib.Core.Path.{sym, ◌∙◌}
use Rattle.sheets.proofs.unpack.Goals as goal

pub returns-then-is_packing : goal.returns-then-is_packing
unfolding unpacking
returns-then-is_packing c = rw (sym c.is_packing.ensures ∙ c.if-is_packing.true, c.sheet_of.ensures)

pub returns-else-is_packing : goal.returns-else-is_packing
unfolding unpacking
returns-else-is_packing c = rw (sym c.is_packing.ensures ∙ c.if-is_packing.false)
