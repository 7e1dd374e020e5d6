-- What the first two found tell of a range of numbers.
-- Assumes nothing.
use Prim.Native.Nat.{ℕ, zero, suc, ◌+◌, ◌≤◌, ◌<◌}
use mathlib.Core.Bool.{Bool, true, false, cond, false≢true}
use mathlib.Core.Logic.{⊎_elim}
use mathlib.Core.Path.{◌≡◌, refl, sym, ap, ap₂, ◌∙◌}
use native.Mathlib.Decide.{dec_le}
use native.Mathlib.Nat.{eq-or-lt_of_le, le_of_suc-le-suc, le_antisymm, lt_of_not-le, add-suc, add-zero, suc-add}
use native.Mathlib.Omega.{arith}
use Rattle.agreement.specs.Search.{hit, search_from, first_two}
use Rattle.agreement.specs.declared.Found.{Found}
use Rattle.agreement.specs.declared.Found.TheVariants.{Nothing, One, Two}
use Rattle.agreement.proofs.SoFar.{search_suc}

module _ (p : ℕ → Bool) (from : ℕ) where
  -- what was found among the numbers from `from` up to `end`
  pub data Tells : ℕ → Found → Type 0 where
    none : {end : ℕ} → ((k : ℕ) → from ≤ k → k < end → p k ≡ false) → Tells end Nothing
    single : {end a : ℕ} → from ≤ a → a < end → p a ≡ true → ((k : ℕ) → from ≤ k → k < end → p k ≡ true → k ≡ a) → Tells end (One a)
    double : {end a b : ℕ} → from ≤ a → a < b → b < end → p a ≡ true → p b ≡ true
        → ((k : ℕ) → from ≤ k → k < b → p k ≡ true → k ≡ a) → Tells end (Two a b)

  below_suc : {k end : ℕ} {A : Type 0} → k < suc end → (k ≡ end → A) → (k < end → A) → A
  below_suc h f g = ⊎_elim f g (eq-or-lt_of_le (le_of_suc-le-suc h))

  at_end : {k end : ℕ} → p end ≡ false → p k ≡ true → k ≡ end → ⊥
  at_end e q s = false≢true (sym e ∙ sym (ap p s) ∙ q)

  -- one number more is looked at
  tells-next : (end : ℕ) (h : Found) → from ≤ end → Tells end h → (b : Bool) → p end ≡ b → Tells (suc end) (cond b (hit end h) h)
  unfolding hit
  tells-next end Nothing l (none f) true e =
      let o : end < suc end = omega arith in
      single l o e (λ k m n q. below_suc n (λ s. s) (λ n'. absurd (false≢true (sym (f k m n') ∙ q))))
  tells-next end Nothing l (none f) false e = none (λ k m n. below_suc n (λ s. ap p s ∙ e) (λ n'. f k m n'))
  tells-next end (One a) l (single m n q f) true e =
      let o : end < suc end = omega arith in
      double m n o q e f
  tells-next end (One a) l (single m n q f) false e =
      let o : a < suc end = omega arith in
      single m o q (λ k m' n' q'. below_suc n' (λ s. absurd (at_end e q' s)) (λ n''. f k m' n'' q'))
  tells-next end (Two a b) l (double m n o q r f) true e = let o' : b < suc end = omega arith in double m n o' q r f
  tells-next end (Two a b) l (double m n o q r f) false e = let o' : b < suc end = omega arith in double m n o' q r f

  tells-search : (n end : ℕ) (h : Found) → from ≤ end → Tells end h → Tells (end + n) (search_from p n end h)
  unfolding search_from
  tells-search zero end h l t = rw add-zero t
  tells-search (suc n) end h l t =
      rw (search_suc p n end h, add-suc)
      (rw suc-add at (tells-search n (suc end) (cond (p end) (hit end h) h) (omega arith) (tells-next end h l t (p end) refl)))

  pub tells : (n : ℕ) → Tells (from + n) (first_two p from n)
  unfolding first_two
  tells n = tells-search n from Nothing (omega arith) (none (λ k l m. absurd (omega arith)))

  -- the second of two is at most that of any other two
  second-least : (a b c d : ℕ) → from ≤ c → c < d → p c ≡ true → p d ≡ true
      → ((k : ℕ) → from ≤ k → k < b → p k ≡ true → k ≡ a) → b ≤ d
  second-least a b c d l m q r f =
      elim (dec_le b d) [
        | yes n ↦ n
        | no n ↦
            (let o : d < b = lt_of_not-le n in
            let x : c ≡ a = f c l (omega arith) q in
            let y : d ≡ a = f d (omega arith) o r in
            absurd (omega arith))
      ]

  -- a range tells one thing only
  pub tells_same : {end : ℕ} (h i : Found) → Tells end h → Tells end i → h ≡ i
  tells_same Nothing Nothing (none f) (none g) = refl
  tells_same Nothing (One a) (none f) (single l m q g) = absurd (false≢true (sym (f a l m) ∙ q))
  tells_same Nothing (Two a b) (none f) (double l m n q r g) = absurd (false≢true (sym (f a l (omega arith)) ∙ q))
  tells_same (One a) Nothing (single l m q g) (none f) = absurd (false≢true (sym (f a l m) ∙ q))
  tells_same (One a) (One c) (single l m q f) (single l' m' q' g) = ap One (g a l m q)
  tells_same (One a) (Two c d) (single l m q f) (double l' m' n' q' r' g) =
      let x : c ≡ a = f c l' (omega arith) q' in
      let y : d ≡ a = f d (omega arith) n' r' in
      absurd (omega arith)
  tells_same (Two a b) Nothing (double l m n q r g) (none f) = absurd (false≢true (sym (f a l (omega arith)) ∙ q))
  tells_same (Two a b) (One c) (double l m n q r g) (single l' m' q' f) =
      let x : a ≡ c = f a l (omega arith) q in
      let y : b ≡ c = f b (omega arith) n r in
      absurd (omega arith)
  tells_same (Two a b) (Two c d) (double l m n q r f) (double l' m' n' q' r' g) =
      let e : b ≡ d = le_antisymm (second-least a b c d l' m' q' r' f) (second-least c d a b l m q r g) in
      let x : c ≡ a = f c l' (omega arith) q' in
      ap₂ Two (sym x) e
