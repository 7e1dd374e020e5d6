-- `larusqem_sheets::larusqem_week_words` meets its contract. Assumes nothing.
use Rattle.larusqem_sheets.specs.Sheets.{week_fields}
use Rattle.sheets.specs.Packing.{bits, unpacked}
use native.Mathlib.Nat.{div-one}
use Rattle.larusqem_sheets.proofs.larusqem_week_words.Goals as goal

pub returns : goal.returns
unfolding week_fields unpacked bits
returns c = rw div-one
