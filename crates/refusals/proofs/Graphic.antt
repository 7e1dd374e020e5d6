-- What cannot be shown, over plain variables.
-- Assumes nothing.
use Prim.Native.Nat.{ℕ, ◌<◌}
use mathlib.Core.Bool.{cond, ◌&&◌}
use mathlib.Core.Logic.{◌⊎◌, ⊎_elim}
use mathlib.Core.Path.{◌≡◌}
use native.Mathlib.Omega.{arith}
use borrow.Author.Tests.{le-leb, lt-leb}
use lib.Dec.{leb}

pub unseen : (b : ℕ) → (b < 33) ⊎ (126 < b) → 63 ≡ cond (leb 33 b && leb b 126) b 63
unseen b h = ⊎_elim (λ (l : b < 33). rw (lt-leb 33 b l)) (λ (l : 126 < b). rw (le-leb 33 b (omega arith), lt-leb b 126 l)) h
