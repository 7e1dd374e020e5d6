-- How a report begins is its first part, over plain variables.
-- Assumes nothing.
use Prim.Native.Nat.{ℕ, suc, ◌+◌, ◌≤◌, ◌<◌}
use mathlib.Core.Bool.{Bool, true, false, cond}
use mathlib.Core.List.{List, [], ◌++◌, append-nil}
use mathlib.Core.Path.{◌≡◌, refl}
use native.Mathlib.Omega.{arith}
use borrow.Author.Tests.{leb-true}
use lib.Dec.{leb}
use lib.ListN.{length, get_or, take}
use Rattle.format.specs.Opening.{most_elements}
use Rattle.laws.proofs.Cases.{picked}
use Rattle.lists.specs.Answers.{opened_reading}
use Rattle.lists.specs.Lines.{lines, line_length, longest_input, too_long, on_lines}
use Rattle.lists.specs.Parts.{Left, FirstPart, Begun}
use Rattle.lists.specs.declared.First.{First}
use Rattle.strptime.specs.Answers.{reading}
use Rattle.lists.proofs.Formats.{answers, first_bytes}
use Rattle.lists.proofs.Puts.{part_start, part_put}

-- the report on the lines of an input is its header and what is left after the first line, and at the input's end nothing is left
pub first_part : (report : List (List ℕ) → List ℕ) (left : Left) {header s room elements before after : List ℕ} {r : First}
    → Begun header s room elements before after r → length header ≤ length before → length too_long ≤ length before
    → (length s ≤ longest_input → report (lines s) ≡ header ++ left r.opened elements s (suc (line_length s)))
    → left r.opened elements s (length s) ≡ [] → FirstPart (on_lines report) left s room elements before after r
unfolding on_lines
first_part report left {header} {s} {room} {elements} {before} {after} {r} b h t whole none =
    record {
      opens = b.opens;
      stores = b.stores;
      puts = part_put (part_start _ before) (rw b.goes (split (leb (length s) longest_input) refl)) b.puts fits;
    }
  where
    split : (x : Bool) → leb (length s) longest_input ≡ x
        → cond x (report (lines s)) too_long
        ≡ cond x header too_long ++ left r.opened elements s (cond x (suc (line_length s)) (length s))
    split true e = whole (leb-true (length s) longest_input e)
    split false e = rw (none, append-nil)

    fits : 0 + length (cond (leb (length s) longest_input) header too_long) ≤ length before
    fits = picked (λ (x : List ℕ). 0 + length x ≤ length before) (leb (length s) longest_input) (omega arith) (omega arith)

-- the format that was opened answers each text as the first line does
pub reads_alike : {header s room elements before after : List ℕ} {r : First} → Begun header s room elements before after r
    → ((k : ℕ) → get_or s k 0 < 256) → most_elements ≤ length room → most_elements ≤ length elements
    → (t : List ℕ) → opened_reading r.opened elements t ≡ reading (take (line_length s) s) t
reads_alike {s = s} b f h k = answers _ _ (first_bytes s (line_length s) f) h k b.opens b.stores
