-- Where the line at a place of an input ends, over plain variables.
-- Assumes nothing.
use Prim.Native.Nat.{ℕ, suc, ◌+◌, ◌-◌, ◌≤◌, min}
use mathlib.Core.Bool.{Bool, true, false, cond}
use mathlib.Core.List.{List, [], ◌∷◌}
use mathlib.Core.Path.{◌≡◌, refl, sym, ap, ◌∙◌}
use native.Mathlib.Decide.{dec_le}
use native.Mathlib.Nat.{lt_of_not-le}
use native.Mathlib.Numerals.{one-add}
use native.Mathlib.Omega.{arith}
use borrow.Author.Tests.{ltb-false}
use lib.Dec.{eqb}
use lib.ListN.{length, take, drop, length-drop, drop_of_length-le}
use lib.Seq.{take_all}
use Rattle.std.specs.List.{position, position_or_len}
use Rattle.std.specs.Prelude.{Some, None, unwrap_or, nat_lt, ◌==◌}
use Rattle.std.proofs.lemmas.List.Recursion.{is_position_or_len}
use Rattle.lists.specs.Lines.{newline, line_length}
use Rattle.laws.proofs.Cases.{picked}

abbrev pub ends : ℕ → Bool
ends b = b == newline

first : (s : List ℕ) → line_length s ≡ position_or_len ends s
unfolding line_length
first = is_position_or_len line_length ends refl (λ b s. rw one-add)

line_most : (s : List ℕ) → line_length s ≤ length s
unfolding line_length
line_most [] = omega arith
line_most (b ∷ s) =
    picked (λ (n : ℕ). n ≤ suc (length s)) (eqb b newline) (omega arith) (omega (arith, line_most s))

-- a line ends within the input
pub within : (s : List ℕ) (i : ℕ) {stop : ℕ} → i ≤ length s → stop ≡ i + line_length (drop i s) → (i ≤ stop) × (stop ≤ length s)
within s i h e = (omega arith, omega (arith, line_most (drop i s), length-drop i s))

-- where the first newline stands, or the end where there is none
pub found : (s : List ℕ) → unwrap_or (position ends s) (length s) ≡ line_length s
found s = rw first (go (nat_lt (position_or_len ends s) (length s)) refl)
  where
    go : (t : Bool) → nat_lt (position_or_len ends s) (length s) ≡ t
        → unwrap_or (cond t (Some (position_or_len ends s)) None) (length s) ≡ position_or_len ends s
    go true e = refl
    go false e = omega (arith, line_most s, first s, ltb-false (position_or_len ends s) (length s) e)

-- what lies after a place, or after the end where that comes first
pub rest_is : (s : List ℕ) (from : ℕ) → take (length s - min from (length s)) (drop (min from (length s)) s) ≡ drop from s
rest_is s from = take_all (length s - min from (length s)) _ (omega (arith, length-drop (min from (length s)) s))
    ∙ go (dec_le from (length s))
  where
    go : Dec (from ≤ length s) → drop (min from (length s)) s ≡ drop from s
    go (yes h) = ap (λ (i : ℕ). drop i s) (omega arith)
    go (no h) =
        let l = lt_of_not-le h in
        drop_of_length-le s {i = min from (length s)} (omega arith) ∙ sym (drop_of_length-le s {i = from} (omega arith))
