-- The whole report: its header or the line `too long`, the lines for the texts, and that its parts make it, over plain variables.
-- Assumes nothing.
use Prim.Native.Nat.{ℕ, suc, ◌+◌, ◌-◌, ◌≤◌, ◌<◌}
use mathlib.Core.List.{List, [], ◌∷◌, ◌++◌, append-nil}
use mathlib.Core.Path.{◌≡◌, refl}
use native.Mathlib.Omega.{arith}
use lib.ListN.{length, take, drop}
use Rattle.lists.specs.Answers.{opened_reading}
use Rattle.lists.specs.Lines.{lines, line_length}
use Rattle.lists.specs.Parts.{InParts}
use Rattle.lists.proofs.NextLine.{first_line, next_line, no_line}
use Rattle.lists.proofs.Parts.{in_parts}
use Rattle.report.specs.Line.{line_of}
use Rattle.report.specs.Report.{header, answered, report_on, report_of, lines_by}
use Rattle.strptime.specs.Answers.{reading}
use Rattle.strptime.specs.declared.Reading.{Reading}

-- no lines are left at the end
pub none_left : (read : List ℕ → Reading) (s : List ℕ) {i : ℕ} → length s ≤ i → answered read (lines (drop i s)) ≡ []
unfolding answered
none_left read s {i} h = rw (no_line s i h)

-- two readers that read alike report alike
alike : {read read' : List ℕ → Reading} → ((t : List ℕ) → read t ≡ read' t) → (ts : List (List ℕ)) → answered read ts ≡ answered read' ts
unfolding answered
alike e [] = refl
alike e (t ∷ ts) = rw (e t, alike e ts)

-- the lines of an input are the first, if it has one, and the others
by_lines : (s : List ℕ) → report_on (lines s) ≡ header ++ answered (reading (take (line_length s) s)) (lines (drop (suc (line_length s)) s))
unfolding report_on answered lines
by_lines [] = rw append-nil
by_lines (b ∷ s) = rw (first_line (b ∷ s) (omega arith))

-- by a reader that reads as the first line does
pub whole : (s : List ℕ) {read : List ℕ → Reading} → ((t : List ℕ) → read t ≡ reading (take (line_length s) s) t)
    → report_on (lines s) ≡ header ++ answered read (lines (drop (suc (line_length s)) s))
whole s f = rw (by_lines s, ← alike f (lines (drop (suc (line_length s)) s)))

-- ---- the parts
pub report_in_parts : InParts report_of lines_by
report_in_parts = in_parts report_of lines_by (λ o es s from h. none_left (opened_reading o es) s h)

-- ---- one line more
pub next_answered : (read : List ℕ → Reading) (s : List ℕ) (i : ℕ) {stop : ℕ} → i < length s → stop ≡ i + line_length (drop i s)
    → answered read (lines (drop i s)) ≡ line_of (read (take (stop - i) (drop i s))) ++ answered read (lines (drop (stop + 1) s))
unfolding answered
next_answered read s i h e = rw (next_line s i h e)
