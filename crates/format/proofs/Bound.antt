-- How many elements a format opens to: at most 13 for each two bytes, since a composite has at least two bytes and opens to at most 13
-- elements.
-- Assumes nothing.
use Prim.Native.Nat.{ℕ, zero, suc, ◌+◌, ◌-◌, ◌*◌, ◌≤◌}
use mathlib.Core.List.{List, [], ◌∷◌}
use native.Mathlib.Nat.{sub-zero}
use native.Mathlib.Omega.{arith}
use lib.Dec.{T, leb, leb→le}
use lib.ListN.{length, length-append}
use Rattle.laws.specs.Lists.{every}
use Rattle.conversions.specs.Conversions.{Composite, composites, own_format, computes as rows-compute}
use Rattle.format.specs.Opening.{Ended, Opening, piece_of, nothing, before, composed, acted, sign_at, open_from, composite_to}
use Rattle.format.specs.Opening.{open_to, opening, computes}
use Rattle.format.specs.Opening.Ended.{Whole, BadAt}
use Rattle.conversions.specs.declared.following.Act.{Act}
use Rattle.conversions.specs.declared.following.Act.TheVariants.{Byte, Convert, Open, Refuse}
use Rattle.format.specs.declared.opening.Side.{Side}
use Rattle.format.specs.declared.opening.Side.TheVariants.{Writer, Reader}
use Rattle.format.proofs.Pieces.{Follows, follows}
use Rattle.conversions.proofs.Rows.{own_passes}
use Rattle.std.specs.Prelude.{None, Option, Some, ℕ}

composed_length : (e : List ℕ) (d : Ended) (rest : Opening)
    → length (composed (record { elements = e; ended = d }) rest).elements ≤ length e + length rest.elements
unfolding composed before
composed_length e Whole rest = omega (arith, length-append e rest.elements)
composed_length e (BadAt p) rest = omega arith

module _ (side : Side) (inner : ℕ → ℕ → Opening) (few : (sign c : ℕ) → length (inner sign c).elements ≤ 13) (g : Option ℕ) where
  -- what stands first takes k bytes, and n bytes follow its first
  acted-bound : (n k sign : ℕ) (rest : Opening) → 2 * length rest.elements ≤ 13 * (n - (k - 1)) → (a : Act) → Follows n k a
      → 2 * length (acted inner sign rest a).elements ≤ 13 * suc n
  unfolding acted before nothing
  acted-bound n k sign rest h (Byte b) f = omega arith
  acted-bound n k sign rest h (Convert c y) f = omega arith
  acted-bound n k sign rest h (Open c) f =
      let o = inner sign c in
      omega (arith, few sign c, composed_length o.elements o.ended rest)
  acted-bound n k sign rest h Refuse f = omega arith

  open-bound : (s : List ℕ) (i past : ℕ) → 2 * length (open_from side inner g i past s).elements ≤ 13 * (length s - past)
  unfolding open_from nothing
  open-bound [] i past = omega arith
  open-bound (b ∷ s) i (suc past) = omega (arith, open-bound s (i + 1) past)
  open-bound (b ∷ s) i zero =
      let p = piece_of side b s in
      rw sub-zero
      (acted-bound (length s) p.length (sign_at g i) (open_from side inner g (i + 1) (p.length - 1) s)
      (open-bound s (i + 1) (p.length - 1))
      p.act
      (follows side b s))

-- each composite's own format, opened for either side
few : (side : Side) (sign : ℕ)
    → T (every (λ (x : Composite). leb (length (open_from side (composite_to side 1) (Some sign) 0 0 x.format).elements) 13) composites)
unfolding computes rows-compute every
few Writer sign = tt
few Reader sign = tt

at_most_13 : (side : Side) (sign c : ℕ) → length (composite_to side 2 sign c).elements ≤ 13
unfolding composite_to
at_most_13 side sign c =
    leb→le (length (open_from side (composite_to side 1) (Some sign) 0 0 (own_format c)).elements) 13
    (own_passes (λ s. leb (length (open_from side (composite_to side 1) (Some sign) 0 0 s).elements) 13) c
    (few side sign)
    (unfold computes in tt))

pub bound : (side : Side) (s : List ℕ) → 2 * length (opening side s).elements ≤ 13 * length s
unfolding opening open_to
bound side s = rw sub-zero at (open-bound side (composite_to side 2) (at_most_13 side) None s 0 0)
