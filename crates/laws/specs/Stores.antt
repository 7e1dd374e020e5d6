-- Bytes stored over a buffer.
use Rattle.std.specs.Prelude.{ℕ, ◌+◌, List, ◌≡◌, length}
use Rattle.std.proofs.lemmas.List.Edits.{sets}

-- x is stored over a buffer from a place on, and the answer is the place after it
pub record Puts (x before : List ℕ) (at : ℕ) (after : List ℕ) (end : ℕ) : Type 0 where
  pub ends : end ≡ at + length x
  pub stores : after ≡ sets before at x
