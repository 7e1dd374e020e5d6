-- Sets of letters as the code holds them: that a number is the set of some letters is one test over all bytes below 128.
-- Assumes nothing.
use Prim.Native.Nat.{ℕ, ◌≤◌, ◌<◌}
use mathlib.Core.Bool.{Bool, true, false, cond, not, ◌&&◌}
use mathlib.Core.List.{List, [], ◌∷◌}
use mathlib.Core.Path.{◌≡◌, refl, sym, ◌∙◌}
use native.Mathlib.Decide.{dec_le}
use native.Mathlib.Nat.{lt_of_not-le}
use native.Mathlib.Omega.{arith}
use borrow.Author.Tests.{ne_eqb, le-ltb, lt-ltb}
use lib.Dec.{T, ltb, ltb→lt}
use Rattle.laws.proofs.Table.{both, all, at}
use Rattle.conversions.specs.Conversions.{among}
use Rattle.conversions.specs.Private.{holds, SetOf}

abbrev same : Bool → Bool → Bool
same a b = cond a b (not b)

same→eq : (a b : Bool) → T (same a b) → a ≡ b
same→eq true true t = refl
same→eq true false t = absurd t
same→eq false true t = absurd t
same→eq false false t = refl

-- all of a list is below n
abbrev pub below : ℕ → List ℕ → Bool
below n [] = true
below n (a ∷ s) = ltb a n && below n s

pub among_past : (n : ℕ) (s : List ℕ) → T (below n s) → (b : ℕ) → n ≤ b → among b s ≡ false
unfolding among
among_past n [] t b h = refl
among_past n (a ∷ s) t b h =
    let u = both (ltb a n) (below n s) t in
    rw (ne_eqb b a (λ (e : b ≡ a). omega (arith, ltb→lt a n u.0))) (among_past n s u.1 b h)

holds_past : (set b : ℕ) → 128 ≤ b → holds set b ≡ false
unfolding holds
holds_past set b h = rw (le-ltb b 64 (omega arith), lt-ltb 127 b (omega arith))

-- at a byte the number and the list agree
abbrev agree : ℕ → List ℕ → ℕ → Bool
agree set s b = same (holds set b) (among b s)

-- a number is the set of some letters where the two agree at each byte below 128 and all letters are below 128
pub set_of : (set : ℕ) (s : List ℕ) → T (all (agree set s) 128) → T (below 128 s) → SetOf set s
set_of set s t u b =
    elim (dec_le 128 b) [
      | yes h ↦ holds_past set b h ∙ sym (among_past 128 s u b h)
      | no h ↦ same→eq (holds set b) (among b s) (at (agree set s) 128 t b (lt_of_not-le h))
    ]

-- a number is the set of the bytes that pass a test
abbrev passes : (ℕ → Bool) → ℕ → ℕ → Bool
passes p set b = same (holds set b) (p b)

-- what `holds` answers of a byte is whether it passes
pub is_passed : (p : ℕ → Bool) (set b : ℕ) {r : Bool} → r ≡ holds set b → b < 256 → T (all (passes p set) 256) → r ≡ p b
is_passed p set b e h t = e ∙ same→eq (holds set b) (p b) (at (passes p set) 256 t b h)

-- what `holds` answers of a byte is whether it is among the letters
pub is_among : (s : List ℕ) (set b : ℕ) {r : Bool} → r ≡ holds set b → T (all (agree set s) 128) → T (below 128 s) → r ≡ among b s
is_among s set b e t u = e ∙ set_of set s t u b
