-- An offset in the bits of its field: the offset and 1439 more, as it is worked out in 64 bits.
-- Assumes nothing.
use Prim.Native.Nat.{ℕ, ◌+◌, ◌^◌, ◌≤◌, ◌<◌}
use mathlib.Core.Path.{◌≡◌, ap, ◌∙◌}
use native.Mathlib.Omega.{arith}
use lib.Dec.{lit<}
use lib.IntN.{ℤ, pos, nat_abs, ◌+ℤ◌}
use lib.Signed.{mag}
use mir.Syntax.{w32, w64}
use mir.Val.{SFits, to_z, of_z}
use Rattle.values.specs.Offsets.{offset_number}
use Rattle.values.proofs.Seconds.{Near, fits, kept, widened}
use Rattle.values.proofs.Signed.{abs_add}

module _ (z : ℤ) (h : mag z < 2 ^ 31) where
  pub wide : SFits w64 (to_z w32 (of_z w32 z))
  wide = fits (widened z h) (lit< tt)

  near : Near (to_z w64 (of_z w64 (to_z w32 (of_z w32 z))) +ℤ pos 1439) (z +ℤ pos 1439) (2 ^ 31 + 1439)
  near =
      let a = kept (widened z h) (lit< tt) in
      record { same = rw a.same; most = omega (arith, a.most, abs_add z (pos 1439)) }

  pub sum_fits : SFits w64 (to_z w64 (of_z w64 (to_z w32 (of_z w32 z))) +ℤ pos 1439)
  sum_fits = fits near (lit< tt)

  module _ {n : ℕ} (e : n ≡ nat_abs (to_z w64 (of_z w64 (to_z w64 (of_z w64 (to_z w32 (of_z w32 z))) +ℤ pos 1439)))) where
    pub number_is : n ≡ offset_number z
    unfolding offset_number
    number_is = e ∙ ap nat_abs (kept near (lit< tt)).same

    pub number_most : n ≤ 2 ^ 31 + 1439
    number_most = omega (arith, e ∙ ap nat_abs (kept near (lit< tt)).same, near.most)
