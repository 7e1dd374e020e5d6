-- Signed numbers of 32 bits and their words: the casts of std are what the specification says. Assumes nothing.
use Rattle.std.proofs.Common.{ℕ, ◌^◌, ◌<◌, ◌≤◌, ◌≡◌, refl}
use native.Mathlib.Decide.{dec_lt}
use native.Mathlib.Omega.{arith}
use borrow.Author.Tests.{lt-ltb, le-ltb}
use lib.IntN.{ℤ, pos, negsuc}
use mir.Syntax.{w32}
use mir.Val.{of_z, to_z}
use Rattle.words.specs.Words.{signed_of, word_of}

pub signed_is : (w : ℕ) → w < 2 ^ 32 → to_z w32 w ≡ signed_of w
unfolding signed_of
signed_is w f =
    elim (dec_lt w (2 ^ 31)) [
      | yes h ↦ rw (lt-ltb w (2 ^ 31) h)
      | no h ↦ let l : 2 ^ 31 ≤ w = omega (arith, h) in rw (le-ltb w (2 ^ 31) l, lt-ltb w (2 ^ 32) f)
    ]

pub word_is : (z : ℤ) → of_z w32 z ≡ word_of z
unfolding word_of
word_is (pos n) = refl
word_is (negsuc n) = refl
