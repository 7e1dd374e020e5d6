-- The white space at a place of a text: none at its end or where the test at its byte failed, and where the test passed one more
-- than after it.
use Prim.Native.Nat.{ℕ, suc, ◌≤◌, ◌<◌}
use mathlib.Core.Path.{◌≡◌}
use mathlib.Core.Bool.{Bool, true, false}
use mathlib.Core.List.{List}
use lib.ListN.{length, get_or, drop, drop_of_length-le}
use lib.Seq.{drop-cons}
use Rattle.text.specs.Space.{is_space, spaces}

module _ (s : List ℕ) (i : ℕ) where
  pub end : length s ≤ i → spaces (drop i s) ≡ 0
  unfolding spaces
  end h = rw (drop_of_length-le s h)

  pub stop : {t : Bool} → i < length s → t ≡ is_space (get_or s i 0) → t ≡ false → spaces (drop i s) ≡ 0
  unfolding spaces
  stop {t} h e n = rw (drop-cons s i 0 h, ← e, n)

  pub more : {t : Bool} → i < length s → t ≡ is_space (get_or s i 0) → t ≡ true
      → spaces (drop i s) ≡ suc (spaces (drop (suc i) s))
  unfolding spaces
  more {t} h e n = rw (drop-cons s i 0 h, ← e, n)
