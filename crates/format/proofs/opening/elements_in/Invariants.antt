use Rattle.std.proofs.Common.{◌≡◌, ℕ, ◌<◌, true, get_or}
use Rattle.format.specs.Opening.{is_element}
use Rattle.format.proofs.opening.elements_in.Given as goal

abbrev pub invariant-loop-k : goal.invariant-loop-k
invariant-loop-k l = (j : ℕ) → j < l.k → is_element l.side (get_or l.elements j 0) ≡ true
