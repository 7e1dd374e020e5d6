-- The numbers of lines, over plain variables.
-- Assumes nothing.
use Prim.Native.Nat.{ℕ, suc, min, ◌+◌, ◌≤◌, ◌<◌}
use mathlib.Core.Bool.{Bool, true, false, cond}
use mathlib.Core.List.{List, [], ◌∷◌, ◌++◌}
use mathlib.Core.Path.{◌≡◌, refl, ◌∙◌}
use native.Mathlib.Numerals.{add-one}
use native.Mathlib.Omega.{arith}
use borrow.Author.Tests.{eq-eqb, ne_eqb}
use lib.Dec.{eqb}
use lib.ListN.{length, get_or, take, drop, length-take, length-drop}
use lib.Seq.{take_all, take-suc, take-add}
use Rattle.laws.proofs.Cases.{picked}
use Rattle.lists.specs.Lines.{newline, line_length}
use Rattle.lists.proofs.Formats.{first_few}
use Rattle.refusals.specs.Blocks.{newlines, line_number}

newlines_append : (a b : List ℕ) → newlines (a ++ b) ≡ newlines a + newlines b
unfolding newlines
newlines_append [] b = omega arith
newlines_append (x ∷ a) b = rw (newlines_append a b) (go (eqb x newline))
  where
    go : (t : Bool) → cond t (suc (newlines a + newlines b)) (newlines a + newlines b) ≡ cond t (suc (newlines a)) (newlines a) + newlines b
    go true = omega arith
    go false = refl

newlines_most : (s : List ℕ) → newlines s ≤ length s
unfolding newlines
newlines_most [] = omega arith
newlines_most (b ∷ s) =
    let h = newlines_most s in
    picked (λ (n : ℕ). n ≤ suc (length s)) (eqb b newline) (omega arith) (omega arith)

-- a line and the newline that ends it have one
one_more : (s : List ℕ) → line_length s < length s → newlines (take (suc (line_length s)) s) ≡ 1
unfolding newlines line_length
one_more [] h = absurd (omega arith)
one_more (b ∷ s) h = go (eqb b newline) refl h (one_more s)
  where
    go : (t : Bool) → eqb b newline ≡ t → cond t 0 (suc (line_length s)) < suc (length s)
        → (line_length s < length s → newlines (take (suc (line_length s)) s) ≡ 1)
        → let more = newlines (take (cond t 0 (suc (line_length s))) s) in cond (eqb b newline) (suc more) more ≡ 1
    go true e l m = rw e
    go false e l m = rw e (m (omega arith))

-- ---- the numbers
module _ (s : List ℕ) where
  pub first_number : line_number s 0 ≡ 1
  unfolding line_number newlines
  first_number = refl

  pub number_most : (i : ℕ) → (line_number s i ≤ i + 1) × (line_number s i ≤ length s + 1)
  unfolding line_number
  number_most i =
      let h = newlines_most (take i s) in
      (omega (arith, length-take i s), omega (arith, length-take i s))

  -- one byte more
  pub next_byte : (i : ℕ) → i < length s → line_number s (i + 1)
      ≡ cond (eqb (get_or s i 0) newline) (suc (line_number s i)) (line_number s i)
  unfolding line_number newlines
  next_byte i h = rw (add-one i, take-suc s i 0 h, newlines_append (take i s) (get_or s i 0 ∷ [])) (go (eqb (get_or s i 0) newline))
    where
      go : (t : Bool) → suc (newlines (take i s) + cond t 1 0) ≡ cond t (suc (suc (newlines (take i s)))) (suc (newlines (take i s)))
      go true = omega arith
      go false = omega arith

  module _ (i : ℕ) (h : i < length s) where
    pub after_newline : get_or s i 0 ≡ newline → line_number s (i + 1) ≡ line_number s i + 1
    after_newline e = next_byte i h ∙ rw (eq-eqb (get_or s i 0) newline e) (omega arith)

    pub after_other : (get_or s i 0 ≡ newline → ⊥) → line_number s (i + 1) ≡ line_number s i
    after_other n = next_byte i h ∙ rw (ne_eqb (get_or s i 0) newline n) refl

  -- the line after
  pub next_number : (i : ℕ) {stop : ℕ} → stop ≡ i + line_length (drop i s) → stop < length s → line_number s (stop + 1)
      ≡ suc (line_number s i)
  unfolding line_number
  next_number i {stop} e h =
      let n = line_length (drop i s) in
      let m : stop + 1 ≡ i + suc n = omega arith in
      let o = one_more (drop i s) (omega (arith, length-drop i s)) in
      rw (m, take-add i (suc n) s, newlines_append (take i s) (take (suc n) (drop i s)), o) (omega arith)

-- the number after all bytes before a place
pub number_before : (s : List ℕ) (k i from : ℕ) → k ≡ min from (length s) → length (take k s) ≤ i
    → line_number (take k s) i ≡ line_number s from
unfolding line_number
number_before s k i from e h = rw (take_all i (take k s) h, e, first_few s from) refl
