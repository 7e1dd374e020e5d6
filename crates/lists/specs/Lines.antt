-- The lines of an input: a newline ends each, and bytes after the last newline are a line too (RULES 9).
use Rattle.std.specs.Prelude.{ℕ, suc, cond, List, [], ◌∷◌, eqb, leb, length}
use Rattle.laws.specs.Bytes.{bytes}

-- the byte that ends a line
abbrev pub newline : ℕ
newline = 10

-- one byte more at the front of the first line
unfoldable pub onto : ℕ → List (List ℕ) → List (List ℕ)
onto b [] = (b ∷ []) ∷ []
onto b (l ∷ ls) = (b ∷ l) ∷ ls

unfoldable pub lines : List ℕ → List (List ℕ)
lines [] = []
lines (b ∷ s) = let rest = lines s in cond (eqb b newline) ([] ∷ rest) (onto b rest)

-- how many bytes stand before the first newline, or before the end where there is none
unfoldable pub line_length : List ℕ → ℕ
line_length [] = 0
line_length (b ∷ s) = let more = suc (line_length s) in cond (eqb b newline) 0 more

-- the bytes of the longest input, and what a longer one gets
abbrev pub longest_input : ℕ
longest_input = 32768

abbrev pub too_long : List ℕ
too_long = bytes "too long\n"

-- a report on the lines of an input
unfoldable pub on_lines : (List (List ℕ) → List ℕ) → List ℕ → List ℕ
on_lines report s = let all = report (lines s) in cond (leb (length s) longest_input) all too_long
