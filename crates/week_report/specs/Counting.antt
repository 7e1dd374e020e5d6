-- How often each number stands among some.
use Rattle.std.specs.Prelude.{ℕ, suc, cond, List, [], ◌∷◌, eqb}

unfoldable pub how_many : ℕ → List ℕ → ℕ
how_many k [] = 0
how_many k (n ∷ ns) = let more = how_many k ns in cond (eqb k n) (suc more) more
