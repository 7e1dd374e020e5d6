-- What %z and %s write: by its sign and its size, and how long it is.
-- Assumes nothing.
use Prim.Native.Nat.{ℕ, ◌+◌, ◌/◌, ◌%◌, ◌^◌, ◌≤◌, ◌<◌}
use mathlib.Core.Bool.{Bool, true, false, cond}
use mathlib.Core.List.{[], ◌∷◌}
use mathlib.Core.Path.{◌≡◌, refl, sym, ap, ◌∙◌}
use native.Mathlib.Omega.{arith}
use lib.IntN.{ℤ, pos, negsuc, nat_abs}
use lib.ListN.{length, length-append}
use lib.Signed.{mag}
use mir.Facts.{to_z-of_z}
use mir.Syntax.{w32, w64}
use mir.Val.{SFits, to_z, of_z}
use Rattle.laws.proofs.Cases.{clash}
use Rattle.text.specs.Digits.{plain, filled}
use Rattle.text.proofs.Fill.{plain_parts}
use Rattle.text.proofs.ReadBack.{filled_length}
use Rattle.values.specs.Offsets.{is_negative, seconds}
use Rattle.values.specs.declared.Moment.{Moment}
use Rattle.values.proofs.Signed.{near_fits}
use Rattle.converted.specs.Zones.{hours_minutes, east, zone, whole, epoch_seconds}
use Rattle.std.specs.Prelude.{None, Option, Some, ℤ}

-- ---- by the sign

pub east_is : (z : ℤ) → east z ≡ cond (is_negative z) 45 43 ∷ hours_minutes (nat_abs z)
unfolding east
east_is (pos n) = refl
east_is (negsuc n) = refl

pub whole_negative : (z : ℤ) → is_negative z ≡ true → whole z ≡ 45 ∷ plain (nat_abs z)
unfolding whole
whole_negative (pos n) e = clash cc
whole_negative (negsuc n) e = refl

pub whole_positive : (z : ℤ) → is_negative z ≡ false → whole z ≡ plain (nat_abs z)
unfolding whole
whole_positive (pos n) e = refl
whole_positive (negsuc n) e = clash cc

-- ---- how long it is

hours_length : (n : ℕ) → length (hours_minutes n) ≡ 4
unfolding hours_minutes
hours_length n = rw length-append (omega (arith, filled_length 48 2 (n / 60), filled_length 48 2 (n % 60)))

pub east_length : (z : ℤ) → length (east z) ≡ 5
east_length z = rw (east_is z) (omega (arith, hours_length (nat_abs z)))

pub zone_short : (o : Option ℤ) → length (zone o) ≤ 5
unfolding zone
zone_short None = omega arith
zone_short (Some z) = omega (arith, east_length z)

pub whole_most : (z : ℤ) → length (whole z) ≤ 1 + length (plain (nat_abs z))
unfolding whole
whole_most (pos n) = omega arith
whole_most (negsuc n) = omega arith

-- a number of more than nine digits
pub long_length : (n : ℕ) → 1000000000 ≤ n → length (plain n) ≡ length (plain (n / 1000000000)) + 9
long_length n h =
    ap length (plain_parts 9 n h)
    ∙ length-append (plain (n / 1000000000)) (filled 48 9 (n % 1000000000))
    ∙ ap (λ (k : ℕ). length (plain (n / 1000000000)) + k) (filled_length 48 9 (n % 1000000000))

-- ---- by the moment's offset

module _ (m : Moment) where
  pub zone_unsaid : m.offset ≡ None → zone m.offset ≡ []
  unfolding zone
  zone_unsaid e = ap zone e

  pub zone_said : {z : ℤ} → m.offset ≡ Some z → zone m.offset ≡ east z
  unfolding zone
  zone_said e = ap zone e

  pub epoch_unsaid : m.offset ≡ None → epoch_seconds m m.offset ≡ []
  unfolding epoch_seconds
  epoch_unsaid e = ap (epoch_seconds m) e

  -- as it is worked out in 64 bits
  pub epoch_said : {z : ℤ} → m.offset ≡ Some z → mag z < 2 ^ 31 → {r : ℤ} → r ≡ seconds m (to_z w32 (of_z w32 z)) → nat_abs r < 10 ^ 15
      → epoch_seconds m m.offset ≡ whole (to_z w64 (of_z w64 r))
  unfolding epoch_seconds
  epoch_said {z} e h {r} q l =
      let same : to_z w64 (of_z w64 r) ≡ r = to_z-of_z {w = w64} (near_fits r (omega arith)) in
      ap (epoch_seconds m) e ∙ ap whole (sym (ap (seconds m) (to_z-of_z {w = w32} (record { sfits = h }))) ∙ sym q ∙ sym same)

-- ---- a whole number that is passed on in 64 bits

module _ (z : ℤ) (f : SFits w64 z) where
  pub size : {n : ℕ} → n ≡ nat_abs (to_z w64 (of_z w64 z)) → n ≡ nat_abs z
  size e = e ∙ ap nat_abs (to_z-of_z f)

  pub sign : {t s : Bool} → t ≡ is_negative (to_z w64 (of_z w64 z)) → t ≡ s → is_negative z ≡ s
  sign e q = sym (ap is_negative (to_z-of_z f)) ∙ sym e ∙ q
