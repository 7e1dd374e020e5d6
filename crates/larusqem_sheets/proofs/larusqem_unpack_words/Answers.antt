-- `larusqem_sheets::larusqem_unpack_words` meets its contract. Assumes nothing.
use Rattle.larusqem_sheets.specs.Sheets.{unpacked_number, unpacked_words}
use mathlib.Core.Path.{refl, sym, ◌∙◌}
use Rattle.larusqem_sheets.proofs.larusqem_unpack_words.Goals as goal

pub returns-in-Some : goal.returns-in-Some
unfolding unpacked_number unpacked_words
returns-in-Some c =
    let u = c.unpack in
    rw (sym u.ensures ∙ c.in-Some.is) (record { value = refl; sheet_after = c.tell.ensures })

pub returns-in-None : goal.returns-in-None
unfolding unpacked_number unpacked_words
returns-in-None c =
    rw (sym c.unpack.ensures ∙ c.in-None.is) (record { value = refl; sheet_after = refl })
