-- A test at each entry of a list.
-- Assumes nothing.
use Prim.Native.Nat.{ℕ, zero, suc, ◌≤◌, ◌<◌, zero-le, suc-le-suc}
use mathlib.Core.Bool.{Bool, true, and-eq-true_iff}
use mathlib.Core.List.Memᴰ.{head as here}
use mathlib.Core.List.Memᴰ.{tail as there}
use mathlib.Core.List.{List, [], ◌∷◌, ◌++◌, Memᴰ as Member}
use mathlib.Core.Path.{◌≡◌, refl, ap, ◌∙◌}
use native.Mathlib.Omega.{arith}
use lib.ListN.{length, get_or}
use Rattle.laws.specs.Lists.{every}

module _ {A : Type 0} (p : A → Bool) where
  -- at one place; past the end stands d
  pub each : (d : A) (s : List A) → every p s ≡ true → (i : ℕ) → (length s ≤ i → p d ≡ true) → p (get_or s i d) ≡ true
  unfolding every
  each d [] e i h = h zero-le
  each d (x ∷ s) e zero h = ((and-eq-true_iff (p x) (every p s)).0 e).0
  each d (x ∷ s) e (suc i) h = each d s ((and-eq-true_iff (p x) (every p s)).0 e).1 i (λ l. h (suc-le-suc l))

  -- at one that is among them
  pub every_member : (s : List A) → every p s ≡ true → (x : A) → Member x s → p x ≡ true
  unfolding every
  every_member [] e x m = elim m [ ]
  every_member (y ∷ s) e x (here q) = ap p q ∙ ((and-eq-true_iff (p y) (every p s)).0 e).0
  every_member (y ∷ s) e x (there m) = every_member s ((and-eq-true_iff (p y) (every p s)).0 e).1 x m

  pub every_of : (d : A) (s : List A) → ((i : ℕ) → i < length s → p (get_or s i d) ≡ true) → every p s ≡ true
  unfolding every
  every_of d [] f = refl
  every_of d (x ∷ s) f = rw (f 0 (omega arith)) (every_of d s (λ i h. f (suc i) (suc-le-suc h)))

  pub every_append : (s r : List A) → every p s ≡ true → every p r ≡ true → every p (s ++ r) ≡ true
  unfolding every
  every_append [] r e f = f
  every_append (x ∷ s) r e f =
      let b = (and-eq-true_iff (p x) (every p s)).0 e in
      rw b.0 (every_append s r b.1 f)
