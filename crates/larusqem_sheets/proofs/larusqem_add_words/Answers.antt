-- `larusqem_sheets::larusqem_add_words` meets its contract. Assumes nothing.
use Rattle.larusqem_sheets.proofs.Counts.{count_small, weeks_small, index_small, told}
use Rattle.sheet_list.specs.Adding.{number_of, place_of}
use Rattle.larusqem_sheets.proofs.larusqem_add_words.Goals.{in-Some, in-None}
use Rattle.larusqem_sheets.proofs.larusqem_add_words.Goals as goal

pub overflow_cast-counts-3 : goal.overflow_cast-counts-3
overflow_cast-counts-3 c = record { fits = count_small _ _ _ c.args.counts.now c.fits-counts _ c.add_all-added.ensures }

pub overflow_cast-counts-4 : goal.overflow_cast-counts-4
overflow_cast-counts-4 c = record { fits = weeks_small _ _ _ c.args.counts.now c.fits-counts _ c.add_all-added.ensures }

pub overflow_cast-answer : goal.overflow_cast-answer
overflow_cast-answer c = record { fits = index_small _ _ _ c.args.counts.now c.fits-counts _ c.add_all-added.ensures }

pub returns : goal.returns
unfolding number_of place_of
returns c =
    let all = told _ _ _ c.args.counts.now _ c.add_all-added.ensures in
    record {
      words_after = all.0;
      weeks_after = all.1.0;
      counts_after = all.1.1.0;
      answer_after = elim c.match-added.branch [
        | in-Some w ↦ rw (w.number-is, w.number.ensures, w.place.ensures) (rw w.in-Some.is at all.1.1.1)
        | in-None w ↦ rw w.number-is (rw w.in-None.is at all.1.1.1)
      ];
    }
