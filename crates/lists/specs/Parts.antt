-- A report on a list that is made in parts: a first one that opens the list's format, then as many for the texts as it takes.
use Rattle.std.specs.Prelude.{ℕ, suc, ◌≤◌, ◌<◌, cond, List, [], ◌∷◌, ◌++◌, ◌≡◌, leb, length, take, drop}
use Rattle.format.specs.Opening.{opened, opened_into}
use Rattle.format.specs.declared.opening.Side.TheVariants.{Reader}
use Rattle.lists.specs.Lines.{line_length, longest_input, too_long}
use Rattle.lists.specs.Putting.{Put}
use Rattle.lists.specs.declared.First.{First}
use Rattle.lists.specs.declared.Next.{Next}
use Rattle.std.specs.Prelude.{Result}
use Rattle.format.specs.declared.opening.Unopened.{Unopened}

-- A part of what is to be reported: n bytes at the front of a buffer, and the rest is left to report. Every other byte is as it was.
pub record Part (whole before after : List ℕ) (n : ℕ) (rest : List ℕ) : Type 0 where
  pub split : whole ≡ take n after ++ rest
  pub kept : drop n after ≡ drop n before
  pub fits : n ≤ length after

-- what is left to report for the texts of an input from a place on, by what opening the format answered and stored
abbrev pub Left : Type 0
Left = Result ℕ Unopened → List ℕ → List ℕ → ℕ → List ℕ

-- the first part of a report: the first line is opened as the format, and what is for the texts from a place on is left
pub record FirstPart (report : List ℕ → List ℕ) (left : Left) (s room elements before after : List ℕ) (r : First) : Type 0 where
  pub opens : r.opened ≡ opened Reader (take (line_length s) s)
  pub stores : elements ≡ opened_into Reader (take (line_length s) s) room
  pub puts : Part (report s) before after r.count (left r.opened elements s r.next)

-- a part from a place of the input on: it goes on where there is a text
pub record NextPart (left : Left) (o : Result ℕ Unopened) (elements s : List ℕ) (from : ℕ) (before after : List ℕ) (r : Next) : Type 0 where
  pub puts : Part (left o elements s from) before after r.count (left o elements s r.next)
  pub goes : from < length s → from < r.next

-- how a report begins: the first line is opened as the format, and a header is put; or the line `too long`, and no text is left
pub record Begun (header s room elements before after : List ℕ) (r : First) : Type 0 where
  pub opens : r.opened ≡ opened Reader (take (line_length s) s)
  pub stores : elements ≡ opened_into Reader (take (line_length s) s) room
  pub puts : Put (cond (leb (length s) longest_input) header too_long) before 0 after r.count
  pub goes : r.next ≡ cond (leb (length s) longest_input) (suc (line_length s)) (length s)

-- ---- the parts together

-- a part that was made, and its buffer before and after
pub record Made : Type 0 where
  pub before : List ℕ
  pub after : List ℕ
  pub made : Next

-- parts one after the other, each from where the one before ended, up to the input's end
unfoldable pub ToEnd : Left → Result ℕ Unopened → List ℕ → List ℕ → ℕ → List Made → Type 0
ToEnd left o es s from [] = length s ≤ from
ToEnd left o es s from (m ∷ ms) =
    NextPart left o es s from m.before m.after m.made × ToEnd left o es s m.made.next ms

-- their bytes
unfoldable pub bytes_of : List Made → List ℕ
bytes_of [] = []
bytes_of (m ∷ ms) = take m.made.count m.after ++ bytes_of ms

-- the bytes of the first part and of those after it are the report, whatever the input is and however many texts each part has
abbrev pub InParts : (List ℕ → List ℕ) → Left → Type 0
InParts report left =
    (s room elements before after : List ℕ) (r : First) (ms : List Made) → FirstPart report left s room elements before after r
    → ToEnd left r.opened elements s r.next ms → take r.count after ++ bytes_of ms ≡ report s
