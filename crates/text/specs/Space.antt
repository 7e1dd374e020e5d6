-- White space (RULES 1): the bytes 9 to 13 (tab, newline, vertical tab, form feed, carriage return) and 32 (blank).
use Rattle.std.specs.Prelude.{ℕ, suc, Bool, cond, ◌&&◌, ◌||◌, List, [], ◌∷◌, eqb, leb}

unfoldable pub is_space : ℕ → Bool
is_space b = (leb 9 b && leb b 13) || eqb b 32

-- how many white-space bytes a text begins with: the longest run
unfoldable pub spaces : List ℕ → ℕ
spaces [] = 0
spaces (b ∷ s) = let more = suc (spaces s) in cond (is_space b) more 0
