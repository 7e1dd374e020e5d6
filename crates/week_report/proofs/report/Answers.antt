-- `week_report::report` meets its contract. Assumes nothing.
use Rattle.week_report.proofs.Whole.{long_reported, next_is, words_within, left_few, weeks_within, small, sum_fits, counts_fit, done}
use Rattle.week_report.specs.Private.{sum_of}
use Rattle.laws.specs.Bytes.{bytes}
use Rattle.std.proofs.Common.{rules}
use lib.Seq.{length-take-le}
use native.Mathlib.Omega.{arith}
use mathlib.Core.Path.{refl, sym}
use Rattle.week_report.proofs.report.Goals as goal

pub returns-then-input-gt-LONGEST_INPUT : goal.returns-then-input-gt-LONGEST_INPUT
unfolding bytes
returns-then-input-gt-LONGEST_INPUT c = long_reported c.begin-first.ensures (omega arith) (omega arith)

pub gather-n-requires : goal.gather-n-requires
unfolding sum_of
gather-n-requires c =
    record { input_len_bound = (omega arith, omega (arith, next_is c.begin-first.ensures (omega arith))); counts_len = (refl, refl) }

pub slice_bounds-words-end : goal.slice_bounds-words-end
slice_bounds-words-end c = words_within c.begin-first.ensures (omega arith) c.gather-n.ensures (omega arith)

pub slice_bounds-count_sheets-end : goal.slice_bounds-count_sheets-end
slice_bounds-count_sheets-end c =
    sym (length-take-le _ _ (words_within c.begin-first.ensures (omega arith) c.gather-n.ensures (omega arith)))

pub overflow_cast-counts : goal.overflow_cast-counts
overflow_cast-counts c =
    let t = c.count_sheets-tallied.ensures in
    record { fits = omega (arith, left_few c.begin-first.ensures (omega arith) c.gather-n.ensures (omega arith) t) }

pub overflow_add-counts : goal.overflow_add-counts
overflow_add-counts c =
    let t = c.count_sheets-tallied.ensures in
    record { fits = sum_fits c.begin-first.ensures (omega arith) c.gather-n.ensures (omega arith) t _ }

pub slice_bounds-table-end : goal.slice_bounds-table-end
slice_bounds-table-end c =
    weeks_within c.begin-first.ensures (omega arith) c.gather-n.ensures (omega arith) c.count_sheets-tallied.ensures (omega arith)

pub slice_bounds-put_weeks-end : goal.slice_bounds-put_weeks-end
slice_bounds-put_weeks-end c =
    let t = c.count_sheets-tallied.ensures in
    sym (length-take-le _ _ (weeks_within c.begin-first.ensures (omega arith) c.gather-n.ensures (omega arith) t (omega arith)))

pub put_weeks-requires : goal.put_weeks-requires
put_weeks-requires c = small c.begin-first.ensures (omega arith) c.gather-n.ensures (omega arith) c.count_sheets-tallied.ensures

pub put_left_out-requires : goal.put_left_out-requires
put_left_out-requires c =
    counts_fit c.begin-first.ensures (omega arith) c.gather-n.ensures (omega arith) c.count_sheets-tallied.ensures _ (omega arith)

pub returns : goal.returns
returns c =
    done c.begin-first.ensures (omega arith) c.gather-n.ensures (omega arith) c.count_sheets-tallied.ensures
    (λ i. omega (arith, c.shared_slice_known-1.given i)) (omega arith) (omega arith) (omega arith)
    c.new-w.ensures.starts.0 c.new-w.ensures.starts.1 c.put_weeks.ensures c.put_left_out.ensures (search rules)
