-- How the code holds sets of letters.
use Rattle.std.specs.Prelude.{ℕ, ◌-◌, ◌/◌, ◌%◌, ◌^◌, Bool, false, cond, List, ◌≡◌, eqb, ltb}
use Rattle.conversions.specs.Conversions.{among}

-- a set of letters is a number whose bit at 64 less than its byte says whether a letter is in
unfoldable pub holds : ℕ → ℕ → Bool
holds set b = cond (ltb b 64) false (cond (ltb 127 b) false (eqb (set / 2 ^ (b - 64) % 2) 1))

-- a number is the set of these letters
abbrev pub SetOf : ℕ → List ℕ → Type 0
SetOf set letters = (b : ℕ) → holds set b ≡ among b letters
