-- `report::first_part` meets its contract. Assumes nothing.
use native.Mathlib.Omega.{arith}
use lib.ListN.{length}
use Rattle.laws.specs.Bytes.{bytes}
use Rattle.lists.proofs.Begun as begun
use Rattle.report.specs.Report.{report_on, report_of, lines_by}
use Rattle.report.proofs.Whole.{none_left, whole}
use Rattle.report.proofs.first_part.Goals as goal

pub returns : goal.returns
unfolding report_of bytes
returns c =
    let k = c in
    let s = k.args.input.now in
    let b = c.begin.ensures in
    let read = begun.reads_alike b (λ i. omega (arith, k.shared_slice_known-1.given i)) (omega arith) (omega arith) in
    begun.first_part report_on lines_by b (omega arith) (omega arith) (λ _. whole s read) (none_left _ s {i = length s} (omega arith))
