-- `larusqem_sheets::tell` meets its contract. Assumes nothing.
use Rattle.larusqem_sheets.specs.Sheets.{words_of}
use Rattle.larusqem_sheets.proofs.tell.Goals as goal

pub returns : goal.returns
unfolding words_of
returns c =
    let o = c in
    let s = c in
    let n = c in
    rw (
      n.flag.ensures,
      n.number_or_0.ensures,
      s.flag-2.ensures,
      s.number_or_0-2.ensures,
      o.flag-3.ensures,
      o.number_or_0-3.ensures,
      o.offset_flag.ensures,
      c.offset_word.ensures,
    )
