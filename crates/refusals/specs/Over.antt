-- A test and numbers over 0, 1, .., n - 1.
use Rattle.std.specs.Prelude.{ℕ, zero, suc, max, Bool, false, cond, ◌||◌}

-- one of them passes
unfoldable pub some : (ℕ → Bool) → ℕ → Bool
some p zero = false
some p (suc n) = some p n || p n

-- how many pass
unfoldable pub tally : (ℕ → Bool) → ℕ → ℕ
tally p zero = 0
tally p (suc n) = let before = tally p n in cond (p n) (suc before) before

-- the greatest of their numbers
unfoldable pub most : (ℕ → ℕ) → ℕ → ℕ
most f zero = 0
most f (suc n) = max (most f n) (f n)
