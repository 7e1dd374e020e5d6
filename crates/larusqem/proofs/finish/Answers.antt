-- `larusqem::finish` meets its contract, word by word.
use Rattle.strptime.specs.Answers.{finished, naming, examining}
use Rattle.larusqem.specs.Words.{more, words_of}
use Rattle.larusqem.proofs.finish.Goals as goal

pub returns : goal.returns
unfolding words_of more naming examining finished
returns c =
    let o = c in
    let f = c in
    let w = c in record {
      value = c.packed.ensures;
      words_after = rw (
        w.day_or_zero-date.ensures,
        w.flag.ensures,
        w.number_or_0.ensures,
        w.flag-2.ensures,
        w.number_or_0-2.ensures,
        w.flag-3.ensures,
        w.number_or_0-3.ensures,
        f.form_number.ensures,
        f.form_number-2.ensures,
        o.offset_flag.ensures,
        o.offset_word.ensures,
      );
    }
