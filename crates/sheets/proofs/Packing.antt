-- Numbers that fit their fields and their word are each other's inverse.
-- Assumes nothing.
use Prim.Native.Nat.{ℕ, suc, ◌+◌, ◌*◌, ◌/◌, ◌%◌, ◌^◌, ◌≤◌, ◌<◌}
use mathlib.Core.List.{List, [], ◌∷◌}
use mathlib.Core.Path.{◌≡◌, refl, ap, ap₂, ◌∙◌}
use lib.Pow.{pow-add, pow_pos}
use native.Mathlib.Nat.{mul-le-mul_right, mod-lt, mod-eq_of_lt, div-eq_of_lt, div-add-mod', div-lt_iff_lt-mul}
use native.Mathlib.Nat.{mul-add-div_right, mul-add-mod_self_right, add-zero}
use native.Mathlib.Omega.{arith}
use Rattle.sheets.specs.Packing.{bits, packed, unpacked, Fit}

module _ (w : ℕ) (ws : List ℕ) where
  whole : 2 ^ bits (w ∷ ws) ≡ 2 ^ w * 2 ^ bits ws
  unfolding bits
  whole = pow-add 2 w (bits ws)

  some : 0 < 2 ^ bits ws
  some = pow_pos (bits ws)

-- the word of numbers that fit has no more bits than their fields
pub packed_small : (ws ns : List ℕ) → Fit ws ns → packed ws ns < 2 ^ bits ws
unfolding packed Fit
packed_small [] [] f = unfold bits in omega arith
packed_small [] (n ∷ ns) f = absurd f
packed_small (w ∷ ws) [] f = absurd f
packed_small (w ∷ ws) (n ∷ ns) f =
    let m : suc n * 2 ^ bits ws ≤ 2 ^ w * 2 ^ bits ws = mul-le-mul_right (2 ^ bits ws) f.0 in
    rw (whole w ws) (omega (arith, packed_small ws ns f.1, m))

-- such a word unpacks to its numbers
pub unpacked_packed : (ws ns : List ℕ) → Fit ws ns → unpacked ws (packed ws ns) ≡ ns
unfolding packed unpacked Fit
unpacked_packed [] [] f = refl
unpacked_packed [] (n ∷ ns) f = absurd f
unpacked_packed (w ∷ ws) [] f = absurd f
unpacked_packed (w ∷ ws) (n ∷ ns) f =
    let b = 2 ^ bits ws in
    let p = packed ws ns in
    let h = packed_small ws ns f.1 in
    let quotient : (n * b + p) / b ≡ n = mul-add-div_right (some w ws) n p ∙ ap (λ q. n + q) (div-eq_of_lt h) ∙ add-zero n in
    let rest : (n * b + p) % b ≡ p = mul-add-mod_self_right n b p ∙ mod-eq_of_lt h in
    ap₂ (λ (q : ℕ) (r : List ℕ). q ∷ r) quotient (ap (unpacked ws) rest ∙ unpacked_packed ws ns f.1)

-- and a word of no more bits is the packing of its numbers
pub packed_unpacked : (ws : List ℕ) (x : ℕ) → x < 2 ^ bits ws → packed ws (unpacked ws x) ≡ x
unfolding packed unpacked
packed_unpacked [] x h = unfold bits in omega arith
packed_unpacked (w ∷ ws) x h =
    ap (λ r. x / 2 ^ bits ws * 2 ^ bits ws + r) (packed_unpacked ws (x % 2 ^ bits ws) (mod-lt x (some w ws)))
    ∙ div-add-mod' x (2 ^ bits ws)

-- which fit
pub unpacked_fit : (ws : List ℕ) (x : ℕ) → x < 2 ^ bits ws → Fit ws (unpacked ws x)
unfolding unpacked Fit
unpacked_fit [] x h = tt
unpacked_fit (w ∷ ws) x h =
    ((div-lt_iff_lt-mul (some w ws)).1 (rw (whole w ws) at h), unpacked_fit ws (x % 2 ^ bits ws) (mod-lt x (some w ws)))
