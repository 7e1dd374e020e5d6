-- The first bad % of a format lies within it.
-- Assumes nothing.
use Prim.Native.Nat.{ℕ, zero, suc, ◌+◌, ◌-◌, ◌<◌}
use mathlib.Core.List.{List, [], ◌∷◌}
use mathlib.Core.Path.{◌≡◌}
use native.Mathlib.Omega.{arith}
use lib.ListN.{length}
use Rattle.conversions.specs.Conversions.{own_format}
use Rattle.format.specs.Opening.{Ended, Opening, piece_of, nothing, before, composed, acted, sign_at}
use Rattle.format.specs.Opening.{open_from, composite_to, open_to, opening}
use Rattle.format.specs.Opening.Ended.{Whole, BadAt}
use Rattle.conversions.specs.declared.following.Act.{Act}
use Rattle.conversions.specs.declared.following.Act.TheVariants.{Byte, Convert, Open, Refuse}
use Rattle.format.specs.declared.opening.Side.{Side}
use Rattle.std.specs.Prelude.{None, Option, Some, ℕ}

-- an opening that ended badly ended before n
unfoldable Before : ℕ → Ended → Type 0
Before n Whole = Unit {0}
Before n (BadAt p) = p < n

composed_before : (n : ℕ) (e : List ℕ) (d : Ended) (rest : Opening) → Before n d → Before n rest.ended
    → Before n (composed (record { elements = e; ended = d }) rest).ended
unfolding composed before
composed_before n e Whole rest f g = g
composed_before n e (BadAt p) rest f g = f

module _ (side : Side) (n : ℕ) (inner : ℕ → ℕ → Opening) (f : (sign c : ℕ) → sign < n → Before n (inner sign c).ended) (g : Option ℕ) where
  acted-before : (sign : ℕ) (rest : Opening) → sign < n → Before n rest.ended → (a : Act) → Before n (acted inner sign rest a).ended
  unfolding acted before nothing Before
  acted-before sign rest h r (Byte b) = r
  acted-before sign rest h r (Convert c y) = r
  acted-before sign rest h r (Open c) =
      let o = inner sign c in
      composed_before n o.elements o.ended rest (f sign c h) r
  acted-before sign rest h r Refuse = h

  open-before : (s : List ℕ) (i past : ℕ) → ((k : ℕ) → k < i + length s → sign_at g k < n)
      → Before n (open_from side inner g i past s).ended
  unfolding open_from nothing Before
  open-before [] i past h = tt
  open-before (b ∷ s) i (suc past) h = open-before s (i + 1) past (λ k l. h k (omega arith))
  open-before (b ∷ s) i zero h =
      let p = piece_of side b s in
      acted-before (sign_at g i) (open_from side inner g (i + 1) (p.length - 1) s) (h i (omega arith))
      (open-before s (i + 1) (p.length - 1) (λ k l. h k (omega arith)))
      p.act

composite_before : (side : Side) (depth n sign c : ℕ) → sign < n → Before n (composite_to side depth sign c).ended
unfolding composite_to nothing Before sign_at
composite_before side zero n sign c h = h
composite_before side (suc depth) n sign c h =
    open-before side n (composite_to side depth) (composite_before side depth n) (Some sign) (own_format c) 0 0 (λ k l. h)

pub bad_within : (side : Side) (f : List ℕ) {p : ℕ} → (opening side f).ended ≡ BadAt p → p < length f
unfolding opening open_to Before sign_at
bad_within side f e =
    let n = length f in
    rw e at (open-before side n (composite_to side 2) (composite_before side 2 n) None f 0 0 (λ k l. omega arith))
