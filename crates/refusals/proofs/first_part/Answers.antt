-- `refusals::first_part` meets its contract. Assumes nothing.
use native.Mathlib.Omega.{arith}
use lib.ListN.{length}
use Rattle.laws.specs.Bytes.{bytes}
use Rattle.lists.proofs.Begun as begun
use Rattle.refusals.specs.Blocks.{refusals_on, refusals_of, blocks_by}
use Rattle.refusals.proofs.Whole.{none_left, whole}
use Rattle.refusals.proofs.first_part.Goals as goal

pub returns : goal.returns
unfolding refusals_of bytes
returns c =
    let k = c in
    let s = k.args.input.now in
    let b = c.begin.ensures in
    let read = begun.reads_alike b (λ i. omega (arith, k.shared_slice_known-1.given i)) (omega arith) (omega arith) in
    begun.first_part refusals_on blocks_by b (omega arith) (omega arith) (whole s _ (omega arith) b.opens b.stores read)
    (none_left _ _ s (length s) (omega arith))
