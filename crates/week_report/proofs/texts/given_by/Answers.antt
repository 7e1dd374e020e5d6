-- `week_report::texts::given_by` meets its contract. Assumes nothing.
use mathlib.Core.Path.{sym, ap, ◌∙◌}
use Rattle.week_report.proofs.Gathering.{refused_out, read_gives}
use Rattle.sheets.specs.Sheets.{packing}
use Rattle.week_report.specs.Texts.{sheet_or_out}
use Rattle.week_report.proofs.texts.given_by.Goals as goal

pub returns-then-reading-ne0 : goal.returns-then-reading-ne0
returns-then-reading-ne0 c = refused_out _ c.if-reading-ne0.true

pub returns-in-Ok : goal.returns-in-Ok
unfolding sheet_or_out
returns-in-Ok c =
    let packed = c.pack.ensures ∙ ap packing c.reading_fields.ensures in
    read_gives c.args.reading c.if-reading-ne0.false (sym packed ∙ c.in-Ok.is)

pub returns-in-Err : goal.returns-in-Err
returns-in-Err c =
    let packed = c.pack.ensures ∙ ap packing c.reading_fields.ensures in
    c.out_number.ensures ∙ read_gives c.args.reading c.if-reading-ne0.false (sym packed ∙ c.in-Err.is)
