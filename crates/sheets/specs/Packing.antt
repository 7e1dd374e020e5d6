-- Numbers packed into a word, from its most significant bit on, each in so many bits (RULES 11.1).
use Rattle.std.specs.Prelude.{ℕ, ◌+◌, ◌*◌, ◌/◌, ◌%◌, ◌^◌, ◌<◌, List, [], ◌∷◌}

-- all the bits of some fields
unfoldable pub bits : List ℕ → ℕ
bits [] = 0
bits (w ∷ ws) = w + bits ws

-- the word of some numbers, each in the bits of its field
unfoldable pub packed : List ℕ → List ℕ → ℕ
packed [] ns = 0
packed (w ∷ ws) [] = 0
packed (w ∷ ws) (n ∷ ns) = n * 2 ^ bits ws + packed ws ns

-- the numbers of a word
unfoldable pub unpacked : List ℕ → ℕ → List ℕ
unpacked [] x = []
unpacked (w ∷ ws) x = x / 2 ^ bits ws ∷ unpacked ws (x % 2 ^ bits ws)

-- each number fits the bits of its field, and there is one for each
unfoldable pub Fit : List ℕ → List ℕ → Type 0
Fit [] [] = Unit
Fit [] (n ∷ ns) = ⊥
Fit (w ∷ ws) [] = ⊥
Fit (w ∷ ws) (n ∷ ns) = (n < 2 ^ w) × Fit ws ns

-- everything here, for proofs that compute
unfoldable pub computes : Unit {0}
unfolding bits packed unpacked
computes = tt
