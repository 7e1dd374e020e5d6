use Rattle.sheet_list.specs.Private.{IsTallied}
use lib.ListN.{take}
use Rattle.sheet_list.proofs.tallies.count_sheets.Given as goal

abbrev pub invariant-loop-index : goal.invariant-loop-index
invariant-loop-index l = IsTallied (take l.index l.words) l.initial.table l.table l.tallied
