-- `sheets::words_fields` meets its contract. Assumes nothing.
use Rattle.sheets.specs.Sheets.{fields_from}
use Rattle.sheets.proofs.words_fields.Goals as goal

pub returns : goal.returns
unfolding fields_from
returns c =
    rw (
      c.date_from.ensures,
      c.said_from.ensures,
      c.said_from-2.ensures,
      c.said_from-3.ensures,
      c.offset_from.ensures,
    )
