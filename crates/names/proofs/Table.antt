-- Tables of names: what a table of the code holds that is made of the names one by one.
use Prim.Native.Nat.{ℕ, zero, suc, ◌<◌}
use mathlib.Core.Path.{◌≡◌, refl}
use mathlib.Core.List.{List, [], ◌∷◌, map}
use native.Mathlib.Nat.{le_of_suc-le-suc, not-suc-le-zero}
use lib.ListN.{length, get_or}

module _ {A : Type 0} (f : List ℕ → A) where
  pub entry : (d : A) (ns : List (List ℕ)) (i : ℕ) → i < length ns → get_or (map f ns) i d ≡ f (get_or ns i [])
  entry d [] i h = absurd (not-suc-le-zero h)
  entry d (n ∷ ns) zero h = refl
  entry d (n ∷ ns) (suc i) h = entry d ns i (le_of_suc-le-suc h)
