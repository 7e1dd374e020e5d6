-- Counts by number: their sum, and how often each number was counted.
-- Assumes nothing.
use Prim.Native.Nat.{ℕ, zero, suc, ◌+◌, ◌≤◌, ◌<◌}
use mathlib.Core.Bool.{cond}
use mathlib.Core.List.{List, [], ◌∷◌, ◌++◌}
use mathlib.Core.Path.{◌≡◌, refl, sym, ap, ◌∙◌}
use native.Mathlib.Decide.{ℕ_discrete}
use native.Mathlib.Nat.{add-zero}
use native.Mathlib.Numerals.{add-one}
use native.Mathlib.Omega.{arith}
use borrow.Author.Tests.{eq-eqb, ne_eqb}
use lib.Dec.{eqb}
use lib.ListN.{length, get_or, set, replicate, length-set}
use lib.Seq.{get_or-set_same, get_or-set_other, set-set, set-get_or}
use Rattle.std.specs.List.{sum}
use Rattle.std.proofs.lemmas.List.Recursion.{is_sum_by}
use Rattle.week_report.specs.Counting.{how_many}
use Rattle.week_report.specs.Private.{tallied, sum_of}

-- every number of a list is one of the counts'
unfoldable pub Below : ℕ → List ℕ → Type 0
Below m [] = Unit
Below m (n ∷ ns) = (n < m) × Below m ns

pub below_append : (m : ℕ) (a b : List ℕ) → Below m a → Below m b → Below m (a ++ b)
unfolding Below
below_append m [] b p q = q
below_append m (n ∷ a) b p q = (p.0, below_append m a b p.1 q)

pub below_same : (m n k : ℕ) → n < m → Below m (replicate k n)
unfolding Below
below_same m n zero h = tt
below_same m n (suc k) h = (h, below_same m n k h)

-- ---- one number more

pub sum_set : (c : List ℕ) (n : ℕ) → n < length c → sum_of (set c n (suc (get_or c n 0))) ≡ suc (sum_of c)
unfolding sum_of
sum_set [] n h = absurd (omega arith)
sum_set (x ∷ c) zero h = omega arith
sum_set (x ∷ c) (suc n) h = let e = sum_set c n (omega arith) in omega arith

pub at_most_sum : (c : List ℕ) (n : ℕ) → get_or c n 0 ≤ sum_of c
unfolding sum_of
at_most_sum [] n = omega arith
at_most_sum (x ∷ c) zero = omega arith
at_most_sum (x ∷ c) (suc n) = let e = at_most_sum c n in omega arith

pub one_more : (c : List ℕ) (n : ℕ) → set c n (get_or c n 0 + 1) ≡ tallied (n ∷ []) c
unfolding tallied
one_more c n = rw add-one

-- ---- many

pub tallied_length : (ns c : List ℕ) → length (tallied ns c) ≡ length c
unfolding tallied
tallied_length [] c = refl
tallied_length (n ∷ ns) c = tallied_length ns _ ∙ length-set c n _

pub tallied_append : (a b c : List ℕ) → tallied (a ++ b) c ≡ tallied b (tallied a c)
unfolding tallied
tallied_append [] b c = refl
tallied_append (n ∷ a) b c = tallied_append a b _

pub tallied_sum : (ns c : List ℕ) → Below (length c) ns → sum_of (tallied ns c) ≡ sum_of c + length ns
unfolding tallied Below
tallied_sum [] c p = omega arith
tallied_sum (n ∷ ns) c p =
    let e = length-set c n (suc (get_or c n 0)) in
    let again = tallied_sum ns (set c n (suc (get_or c n 0))) (rw e p.1) in
    omega (arith, again, sum_set c n p.0)

-- the same number some times
pub tallied_same : (n k : ℕ) (c : List ℕ) → n < length c → set c n (get_or c n 0 + k) ≡ tallied (replicate k n) c
unfolding tallied
tallied_same n zero c h = rw (add-zero (get_or c n 0)) (set-get_or c n 0)
tallied_same n (suc k) c h =
    let v = suc (get_or c n 0) in
    let g = get_or-set_same c n v 0 h in
    let again = tallied_same n k (set c n v) (omega (arith, length-set c n v)) in
    let e : get_or c n 0 + suc k ≡ v + k = omega arith in
    rw e (sym (set-set c n v (v + k)) ∙ ap (λ (x : ℕ). set (set c n v) n (x + k)) (sym g) ∙ again)

-- how often each was counted
pub tallied_at : (k : ℕ) (ns c : List ℕ) → Below (length c) ns → get_or (tallied ns c) k 0 ≡ get_or c k 0 + how_many k ns
unfolding tallied Below how_many
tallied_at k [] c p = omega arith
tallied_at k (n ∷ ns) c p =
    let v = suc (get_or c n 0) in
    let again = tallied_at k ns (set c n v) (rw (length-set c n v) p.1) in
    go (ℕ_discrete k n) again
  where
    go : Dec (k ≡ n) → get_or (tallied ns (set c n (suc (get_or c n 0)))) k 0 ≡ get_or (set c n (suc (get_or c n 0))) k 0 + how_many k ns
        → get_or (tallied ns (set c n (suc (get_or c n 0)))) k 0 ≡ get_or c k 0 + cond (eqb k n) (suc (how_many k ns)) (how_many k ns)
    go (yes e) again =
        let g : get_or (set c n (suc (get_or c n 0))) k 0 ≡ suc (get_or c k 0) = rw e (get_or-set_same c n (suc (get_or c n 0)) 0 p.0) in
        rw (eq-eqb k n e) (omega (arith, again, g))
    go (no h) again =
        let g = get_or-set_other c n k (suc (get_or c n 0)) 0 h in
        rw (ne_eqb k n h) (omega (arith, again, g))

-- ---- the sum, as std has it

pub sum_is : (c : List ℕ) → sum_of c ≡ sum c
unfolding sum_of
sum_is = is_sum_by sum_of (λ x. x) refl (λ n c. refl)
