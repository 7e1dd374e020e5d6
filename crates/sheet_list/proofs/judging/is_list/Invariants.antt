use Rattle.sheet_list.proofs.Listing.{Listing}
use Rattle.sheet_list.proofs.judging.is_list.Given as goal

abbrev pub invariant-loop-word : goal.invariant-loop-word
invariant-loop-word l = Listing l.words l.low l.word-index
