-- Filling: a text brought to a width.
use Rattle.std.specs.Prelude.{ℕ, ◌-◌, List, ◌++◌, length, replicate}

-- a text on at least w places, filled on the left with the byte f (RULES 5), numbers and names alike
unfoldable pub fill : ℕ → ℕ → List ℕ → List ℕ
fill f w s = replicate (w - length s) f ++ s
