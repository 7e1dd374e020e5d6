-- The lines of an input, one after the other, over plain variables.
-- Assumes nothing.
use Prim.Native.Nat.{ℕ, suc, ◌+◌, ◌-◌, ◌≤◌, ◌<◌}
use mathlib.Core.Bool.{Bool, true, false, cond}
use mathlib.Core.List.{List, [], ◌∷◌}
use mathlib.Core.Path.{◌≡◌, refl}
use native.Mathlib.Omega.{arith}
use lib.Dec.{eqb}
use lib.ListN.{length, take, drop, length-drop, drop_of_length-le}
use lib.Seq.{drop-drop}
use Rattle.lists.specs.Lines.{newline, onto, lines, line_length}

-- a byte at the front of the first line
onto_first : (b : ℕ) (s : List ℕ) → onto b (lines s) ≡ (b ∷ take (line_length s) s) ∷ lines (drop (suc (line_length s)) s)
unfolding lines line_length onto
onto_first b [] = refl
onto_first b (a ∷ s) = go (eqb a newline) (onto_first a s)
  where
    go : (t : Bool) → onto a (lines s) ≡ (a ∷ take (line_length s) s) ∷ lines (drop (suc (line_length s)) s)
        → onto b (cond t ([] ∷ lines s) (onto a (lines s)))
        ≡ (b ∷ take (cond t 0 (suc (line_length s))) (a ∷ s)) ∷ lines (drop (suc (cond t 0 (suc (line_length s)))) (a ∷ s))
    go true e = refl
    go false e = rw e

-- the first line and the others
pub first_line : (s : List ℕ) → 0 < length s → lines s ≡ take (line_length s) s ∷ lines (drop (suc (line_length s)) s)
unfolding lines line_length
first_line [] h = absurd (omega arith)
first_line (b ∷ s) h = go (eqb b newline)
  where
    go : (t : Bool) → cond t ([] ∷ lines s) (onto b (lines s))
        ≡ take (cond t 0 (suc (line_length s))) (b ∷ s) ∷ lines (drop (suc (cond t 0 (suc (line_length s)))) (b ∷ s))
    go true = refl
    go false = onto_first b s

module _ (s : List ℕ) (i : ℕ) where
  pub no_line : length s ≤ i → lines (drop i s) ≡ []
  unfolding lines
  no_line h = rw (drop_of_length-le s h)

  pub next_line : {stop : ℕ} → i < length s → stop ≡ i + line_length (drop i s)
      → lines (drop i s) ≡ take (stop - i) (drop i s) ∷ lines (drop (stop + 1) s)
  next_line {stop} h e =
      let n = line_length (drop i s) in
      let p : stop - i ≡ n = omega arith in
      let q : stop + 1 ≡ i + suc n = omega arith in
      rw (p, q, ← drop-drop (suc n) i s) (first_line (drop i s) (omega (arith, length-drop i s)))
