-- A rule of a table, proved at every place by one test that antt computes.
-- Assumes nothing.
use mathlib.Core.Logic.{⊎_elim}
use mathlib.Core.List.{map}
use mathlib.Core.Path.{◌≡◌, sym, subst}
use mathlib.Core.Bool.{Bool, true, false, ◌&&◌}
use Prim.Native.Nat.{ℕ, zero, suc, ◌+◌, ◌≤◌, ◌<◌}
use native.Mathlib.Nat.{le_of_suc-le-suc, not-suc-le-zero, eq-or-lt_of_le}
use native.Mathlib.Omega.{arith}
use lib.Dec.{T}
use Rattle.laws.specs.Lists.{range}

pub both : (a b : Bool) → T (a && b) → T a × T b
both true b t = (tt, t)
both false b t = absurd t

-- the test f passes at 0, 1, .., n - 1
abbrev pub all : (ℕ → Bool) → ℕ → Bool
all f zero = true
all f (suc n) = all f n && f n

pub at : (f : ℕ → Bool) (n : ℕ) → T (all f n) → (k : ℕ) → k < n → T (f k)
at f zero t k h = absurd (not-suc-le-zero h)
at f (suc n) t k h =
    ⊎_elim
    (λ e. subst (λ (m : ℕ). T (f m)) (sym e) (both (all f n) (f n) t).1)
    (λ l. at f n (both (all f n) (f n) t).0 k l)
    (eq-or-lt_of_le (le_of_suc-le-suc h))

-- two functions that agree over a range agree at each number of it
pub same_at : {A : Type 0} (f g : ℕ → A) (n from : ℕ) → map f (range from n) ≡ map g (range from n)
    → (k : ℕ) → from ≤ k → k < from + n → f k ≡ g k
unfolding range
same_at f g zero from e k p q = absurd (omega arith)
same_at f g (suc n) from e k p q =
    let here : f from ≡ g from = cc in
    let more : map f (range (suc from) n) ≡ map g (range (suc from) n) = cc in
    ⊎_elim
    (λ (s : from ≡ k). rw s at here)
    (λ (l : from < k). same_at f g n (suc from) more k l (omega arith))
    (eq-or-lt_of_le p)
