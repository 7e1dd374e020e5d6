use Prim.Native.Nat.{◌+◌, ◌-◌, ◌≤◌, ◌<◌}
use mathlib.Core.Path.{◌≡◌}
use lib.ListN.{length, drop}
use Rattle.lists.specs.Lines.{lines}
use Rattle.lists.proofs.Listing.{Listing}
use Rattle.refusals.specs.Blocks.{blocks, opened_block, line_number, blocks_by}
use Rattle.refusals.proofs.blocks.put_blocks.Given as goal

-- what is put and what is said of the texts that are left are what is to be said; the lines are counted while there is one
abbrev pub invariant-loop-next : goal.invariant-loop-next
invariant-loop-next l =
    Listing (blocks_by l.opened l.elements l.input l.from) l.initial.w l.w
    (blocks (opened_block l.opened l.elements) l.line (lines (drop l.next l.input))) l.from l.next
    × (l.line ≤ l.next + 1)
    × (l.next < length l.input → l.line ≡ line_number l.input l.next)

abbrev pub decreases-loop-next : goal.decreases-loop-next
decreases-loop-next l = length l.input - l.next
