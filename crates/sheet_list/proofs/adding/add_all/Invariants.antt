use Rattle.sheet_list.proofs.Loop.{Adding}
use Rattle.sheet_list.specs.Adding.{held, sheet_words}
use lib.ListN.{length}
use mathlib.Core.Path.{◌≡◌}
use Prim.Native.Nat.{◌/◌}
use Rattle.sheet_list.proofs.adding.add_all.Given as goal

abbrev pub invariant-loop-sheet : goal.invariant-loop-sheet
invariant-loop-sheet l =
    (l.added.index ≡ l.sheet-index)
    × Adding l.sheets (held l.initial.words l.count l.initial.table l.weeks) (length l.sheets / sheet_words) l.added l.words l.table
