-- Stores of a list over another from some place on, as much of it as fits.
-- Assumes nothing.
use Prim.Native.Nat.{ℕ, zero, suc, ◌+◌, ◌≤◌}
use mathlib.Core.List.{List, [], ◌∷◌, ◌++◌, append-nil}
use mathlib.Core.Path.{◌≡◌, refl, sym, ap, ◌∙◌}
use native.Mathlib.Nat.{add-zero, add-suc, suc-add}
use native.Mathlib.Omega.{arith}
use lib.ListN.{length, take, drop, set, length-append, take-append-drop, drop_of_length-le}
use lib.Seq.{sets, take_all, drop-nil, set_out}
use Rattle.laws.specs.Stores.{Puts}

-- one list after the other
pub sets_append : (l : List ℕ) (i : ℕ) (a b : List ℕ) → sets l i (a ++ b) ≡ sets (sets l i a) (i + length a) b
sets_append l i [] b = rw (add-zero i)
sets_append l i (x ∷ a) b = rw (add-suc, ← suc-add) (sets_append (set l i x) (suc i) a b)

-- past the end nothing is stored
pub sets_past : (l vs : List ℕ) (i : ℕ) → length l ≤ i → sets l i vs ≡ l
sets_past l [] i h = refl
sets_past l (v ∷ vs) i h = rw (set_out l i v h) (sets_past l vs (suc i) (omega arith))

sets_shift : (x : ℕ) (l : List ℕ) (i : ℕ) (vs : List ℕ) → sets (x ∷ l) (suc i) vs ≡ x ∷ sets l i vs
sets_shift x l i [] = refl
sets_shift x l i (v ∷ vs) = sets_shift x (set l i v) (suc i) vs

-- from the start on
pub sets_start : (l vs : List ℕ) → sets l 0 vs ≡ take (length l) vs ++ drop (length vs) l
sets_start [] vs = sets_past [] vs 0 (omega arith) ∙ sym (drop-nil (length vs))
sets_start (x ∷ l) [] = refl
sets_start (x ∷ l) (v ∷ vs) = sets_shift v l 0 vs ∙ ap (λ (r : List ℕ). v ∷ r) (sets_start l vs)

-- as many entries as the list has
pub sets_all : (l vs : List ℕ) → length vs ≡ length l → sets l 0 vs ≡ vs
sets_all l vs e =
    rw (sets_start, take_all (length l) vs (omega arith), drop_of_length-le l {i = length vs} (omega arith), append-nil)

-- over the first k entries, the others left
sets_first : (l : List ℕ) (k : ℕ) (vs : List ℕ) → sets (take k l) 0 vs ++ drop k l ≡ sets l 0 (take k vs)
sets_first l zero vs = rw (sets_past [] vs 0 (omega arith))
sets_first [] (suc k) vs = rw (sets_past [] vs 0 (omega arith), sets_past [] (take (suc k) vs) 0 (omega arith))
sets_first (x ∷ l) (suc k) [] = take-append-drop (suc k) (x ∷ l)
sets_first (x ∷ l) (suc k) (v ∷ vs) =
    ap (λ (r : List ℕ). r ++ drop k l) (sets_shift v (take k l) 0 vs)
    ∙ ap (λ (r : List ℕ). v ∷ r) (sets_first l k vs)
    ∙ sym (sets_shift v l 0 (take k vs))

-- over the k entries from a place on, the others left
pub sets_part : (l : List ℕ) (i k : ℕ) (vs : List ℕ)
    → take i l ++ (sets (take k (drop i l)) 0 vs ++ drop k (drop i l)) ≡ sets l i (take k vs)
sets_part l zero k vs = sets_first l k vs
sets_part [] (suc i) k vs =
    rw (sets_past [] (take k vs) (suc i) (omega arith)) (sets_first [] k vs ∙ sets_past [] (take k vs) 0 (omega arith))
sets_part (x ∷ l) (suc i) k vs = rw sets_shift (ap (λ (r : List ℕ). x ∷ r) (sets_part l i k vs))

-- one text after the other
pub then : {x y before between after : List ℕ} {at middle end : ℕ} → Puts x before at between middle → Puts y between middle after end
    → Puts (x ++ y) before at after end
then {x} {y} {before} {at = at} p q =
    record {
      ends = omega (arith, p.ends, q.ends, length-append x y);
      stores = q.stores ∙ rw (p.stores, p.ends) (sym (sets_append before at x y));
    }
