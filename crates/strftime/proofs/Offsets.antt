-- What %z and %s write: how it is put; and where the first %s stands.
-- Assumes nothing.
use Prim.Native.Nat.{ℕ, ◌+◌, ◌-◌, ◌≤◌, ◌<◌}
use mathlib.Core.Bool.{Bool, true, false, cond}
use mathlib.Core.List.{List, [], ◌∷◌}
use mathlib.Core.Path.{◌≡◌, ap, ◌∙◌}
use native.Mathlib.Numerals.{add-one}
use lib.IntN.{ℤ, nat_abs}
use lib.ListN.{length, get_or, drop, drop_of_length-le}
use lib.Seq.{drop-cons, length-sets}
use mir.Facts.{to_z-of_z}
use mir.Syntax.{w64}
use mir.Val.{SFits, to_z, of_z}
use Rattle.std.specs.Prelude.{None, Some}
use Rattle.laws.specs.Stores.{Puts}
use Rattle.laws.proofs.Stores.{then}
use Rattle.text.specs.Digits.{plain}
use Rattle.format.specs.Opening.{after_sign}
use Rattle.values.specs.Offsets.{is_negative}
use Rattle.converted.proofs.Offsets.{east_is, whole_negative, whole_positive, size}
use Rattle.strftime.specs.Writing.{is_seconds, first_seconds}
use Rattle.converted.specs.Zones.{hours_minutes, east, whole}

-- ---- how it is put

-- the buffer keeps its length
pub kept : {x before after : List ℕ} {at end : ℕ} → Puts x before at after end → length after ≡ length before
kept {x} {before} {after} {at} p = ap length p.stores ∙ length-sets before at x

-- ---- the first %s

module _ (es : List ℕ) (i : ℕ) where
  pub no_more : length es ≤ i → first_seconds (drop i es) ≡ None
  unfolding first_seconds
  no_more h = rw (drop_of_length-le es h)

  module _ (h : i < length es) {t : Bool} (e : t ≡ is_seconds (get_or es i 0)) where
    pub seconds_here : t ≡ true → first_seconds (drop i es) ≡ Some (after_sign (get_or es i 0) - 1)
    unfolding first_seconds
    seconds_here q = rw (drop-cons es i 0 h, ← e, q)

    pub seconds_later : t ≡ false → first_seconds (drop (i + 1) es) ≡ first_seconds (drop i es)
    unfolding first_seconds
    seconds_later q = rw (drop-cons es i 0 h, ← e, q, add-one i)

-- ---- a whole number that is passed on in 64 bits

module _ (z : ℤ) (f : SFits w64 z) where
  -- its text, in two pieces or in one
  module _ {b d : List ℕ} {at end n : ℕ} (e : n ≡ nat_abs (to_z w64 (of_z w64 z))) where
    pub puts_east : {c : List ℕ} {middle x : ℕ} → x ≡ cond (is_negative (to_z w64 (of_z w64 z))) 45 43 → Puts (x ∷ []) b at c middle
        → Puts (hours_minutes n) c middle d end → Puts (east z) b at d end
    puts_east q p r =
        rw (east_is z, ← size z f e) (then (rw (q, to_z-of_z f) at p) r)

    pub puts_negative : {c : List ℕ} {middle : ℕ} → is_negative z ≡ true → Puts (45 ∷ []) b at c middle → Puts (plain n) c middle d end
        → Puts (whole z) b at d end
    puts_negative q p r = rw (whole_negative z q, ← size z f e) (then p r)

    pub puts_positive : is_negative z ≡ false → Puts (plain n) b at d end → Puts (whole z) b at d end
    puts_positive q r = rw (whole_positive z q, ← size z f e) r
