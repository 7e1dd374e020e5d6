-- `sheets::reading_fields` meets its contract. Assumes nothing.
use Rattle.sheets.specs.Sheets.{reading_fields}
use Rattle.sheets.proofs.reading_fields.Goals as goal

pub returns : goal.returns
unfolding reading_fields
returns c = rw c.day_fields.ensures
