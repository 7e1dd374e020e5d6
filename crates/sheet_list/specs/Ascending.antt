-- Words in ascending order, equal ones allowed (RULES 11.2).
use Rattle.std.specs.Prelude.{ℕ, suc, Bool, true, cond, ◌&&◌, List, [], ◌∷◌, leb, ltb}

-- from a lowest one on
unfoldable pub ascending_from : ℕ → List ℕ → Bool
ascending_from low [] = true
ascending_from low (x ∷ s) = leb low x && ascending_from x s

abbrev pub ascending : List ℕ → Bool
ascending s = ascending_from 0 s

-- one word more, before the first that is not lower
unfoldable pub inserted : ℕ → List ℕ → List ℕ
inserted x [] = x ∷ []
inserted x (y ∷ s) = let later = inserted x s in cond (leb x y) (x ∷ y ∷ s) (y ∷ later)

-- how many words at the front are lower
unfoldable pub below : ℕ → List ℕ → ℕ
below x [] = 0
below x (y ∷ s) = let more = suc (below x s) in cond (ltb y x) more 0
