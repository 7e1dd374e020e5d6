-- How far sums and products of whole numbers lie from zero, by which each step of a sum fits its width.
-- Assumes nothing.
use Prim.Native.Nat.{ℕ, zero, suc, ◌+◌, ◌*◌, ◌^◌, ◌≤◌, ◌<◌}
use mathlib.Core.Path.{◌≡◌, refl}
use native.Mathlib.Omega.{arith}
use borrow.Author.Tests.{ltb-true, ltb-false}
use lib.Dec.{ltb}
use lib.IntN.{ℤ, pos, negsuc, neg_ℤ, nat_abs, sub_ℕ, ◌+ℤ◌, ◌-ℤ◌, ◌*ℤ◌}
use lib.Signed.{mag}
use mir.Facts.{to_z-of_z}
use mir.Syntax.{Width, w64}
use mir.Val.{SFits, hbits, to_z, of_z}
use Rattle.laws.proofs.Cases.{either}

-- ---- bounds

abs_neg : (a : ℤ) → nat_abs (neg_ℤ a) ≡ nat_abs a
abs_neg (pos zero) = refl
abs_neg (pos (suc n)) = refl
abs_neg (negsuc n) = refl

abs_sub_nat : (a b : ℕ) → nat_abs (sub_ℕ a b) ≤ a + b
abs_sub_nat a b =
    either (λ (z : ℤ). nat_abs z ≤ a + b) (ltb a b)
    (λ e. omega (arith, ltb-true a b e))
    (λ e. omega (arith, ltb-false a b e))

pub abs_add : (a b : ℤ) → nat_abs (a +ℤ b) ≤ nat_abs a + nat_abs b
abs_add (pos a) (pos b) = omega arith
abs_add (pos a) (negsuc b) = abs_sub_nat a (suc b)
abs_add (negsuc a) (pos b) = omega (arith, abs_sub_nat b (suc a))
abs_add (negsuc a) (negsuc b) = omega arith

pub abs_sub : (a b : ℤ) → nat_abs (a -ℤ b) ≤ nat_abs a + nat_abs b
abs_sub a b = omega (arith, abs_add a (neg_ℤ b), abs_neg b)

pub abs_times : (k : ℕ) (a : ℤ) → nat_abs (pos k *ℤ a) ≡ k * nat_abs a
abs_times k (pos n) = refl
abs_times k (negsuc n) = abs_neg (pos (k * suc n))

mag_most : (a : ℤ) → mag a ≤ nat_abs a
mag_most (pos n) = omega arith
mag_most (negsuc n) = omega arith

-- a number that lies nearer to zero than the width's half fits it
pub near_fits : {w : Width} (a : ℤ) → nat_abs a < 2 ^ hbits w → SFits w a
near_fits a h = record { sfits = omega (arith, mag_most a) }

-- a number of 64 bits, read as it is stored
pub same_bits : (z : ℤ) → SFits w64 z → to_z w64 (of_z w64 z) ≡ z
same_bits z f = to_z-of_z f
