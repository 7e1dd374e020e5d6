-- `sheet_list::adding::add_sheet` meets its contract. Assumes nothing.
use Rattle.sheet_list.proofs.Steps.{sheet_undated, sheet_bad, sheet_word}
use Rattle.sheets.proofs.Sheets.{packing_word}
use mathlib.Core.Path.{sym, ◌∙◌}
use Rattle.sheet_list.specs.Adding.{number_of, place_of}
use Rattle.sheet_list.proofs.adding.add_sheet.Goals as goal

pub add_word-requires : goal.add_word-requires
add_word-requires c =
    let s = c in
    let e = sym c.pack.ensures ∙ c.in-Ok.is in
    record { weeks_value = s.requires.weeks_value; word_value = (packing_word s.args.fields e, s.requires.index_bound) }

pub returns-in-Err-NoDay : goal.returns-in-Err-NoDay
unfolding number_of place_of
returns-in-Err-NoDay c = sheet_undated _ _ _ (rw c.in-Err-NoDay.field-0-is at (sym c.pack.ensures ∙ c.in-Err-NoDay.is))

pub returns-in-Err-Bad : goal.returns-in-Err-Bad
unfolding number_of place_of
returns-in-Err-Bad c = sheet_bad _ _ _ (rw c.in-Err-Bad.field-0-is at (sym c.pack.ensures ∙ c.in-Err-Bad.is))

pub returns-in-Ok : goal.returns-in-Ok
returns-in-Ok c =
    let w = c in
    c.add_word.ensures
    ∙ sheet_word _ _ _ (sym w.pack.ensures ∙ w.in-Ok.is)
