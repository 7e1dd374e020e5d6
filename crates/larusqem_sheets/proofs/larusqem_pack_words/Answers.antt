-- `larusqem_sheets::larusqem_pack_words` meets its contract. Assumes nothing.
use Rattle.larusqem_sheets.specs.Sheets.{packed_number, packed_word}
use Rattle.sheets.specs.Sheets.{packing}
use mathlib.Core.Path.{refl, sym, ap, ◌∙◌}
use Rattle.larusqem_sheets.proofs.larusqem_pack_words.Goals as goal

pub returns-in-Ok : goal.returns-in-Ok
unfolding packed_number packed_word
returns-in-Ok c =
    let p = c in
    rw (ap packing (sym p.words_fields.ensures) ∙ sym p.pack.ensures ∙ c.in-Ok.is) (record { value = refl; word_after = refl })

pub returns-in-Err-NoDay : goal.returns-in-Err-NoDay
unfolding packed_number packed_word
returns-in-Err-NoDay c =
    let p = c in
    let e = rw c.in-Err-NoDay.field-0-is at (ap packing (sym p.words_fields.ensures) ∙ sym p.pack.ensures ∙ c.in-Err-NoDay.is) in
    rw e (record { value = refl; word_after = refl })

pub returns-in-Err-Bad : goal.returns-in-Err-Bad
unfolding packed_number packed_word
returns-in-Err-Bad c =
    let p = c in
    let e = rw c.in-Err-Bad.field-0-is at (ap packing (sym p.words_fields.ensures) ∙ sym p.pack.ensures ∙ c.in-Err-Bad.is) in
    rw (e, ← c.number.ensures) (record { value = refl; word_after = refl })
