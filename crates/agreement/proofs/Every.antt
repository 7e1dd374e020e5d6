-- A test of every kind of a list: at each member, over two lists, and over numbers in a row, one at a time.
-- Assumes nothing.
use Prim.Native.Nat.{ℕ, zero, suc, ◌+◌, ◌-◌, ◌≤◌, ◌<◌}
use mathlib.Core.Bool.{Bool, true, false, ◌&&◌, and_assoc}
use mathlib.Core.List.{List, [], ◌∷◌, ◌++◌, map}
use mathlib.Core.List.Memᴰ
use mathlib.Core.List.{Memᴰ as Member}
use mathlib.Core.Logic.{⊎_elim}
use mathlib.Core.Path.{◌≡◌, refl, sym, ap, ap₂, ◌∙◌}
use native.Mathlib.Numerals.{add-one}
use native.Mathlib.Omega.{arith}
use Rattle.std.specs.List.{list_all, range_with_len}
use Rattle.laws.specs.Lists.{every, range}

module _ (p : ℕ → Bool) where
  pub member_every : (ks : List ℕ) → ((k : ℕ) → Member k ks → p k ≡ true) → every p ks ≡ true
  unfolding every
  member_every [] f = refl
  member_every (x ∷ ks) f = rw (f x (Member.head refl)) (member_every ks (λ k m. f k (Member.tail m)))

  pub every_append : (a b : List ℕ) → every p (a ++ b) ≡ (every p a && every p b)
  unfolding every
  every_append [] b = refl
  every_append (x ∷ a) b = ap (λ (t : Bool). p x && t) (every_append a b) ∙ sym (and_assoc (p x) (every p a) (every p b))

-- two tests, and two functions, that are alike over a list
pub every_alike : (p q : ℕ → Bool) (ks : List ℕ) → ((k : ℕ) → Member k ks → p k ≡ q k) → every p ks ≡ every q ks
unfolding every
every_alike p q [] f = refl
every_alike p q (x ∷ ks) f =
    ap₂ (λ (a b : Bool). a && b) (f x (Member.head refl)) (every_alike p q ks (λ k m. f k (Member.tail m)))

pub map_member : (f g : ℕ → ℕ) (ks : List ℕ) → map f ks ≡ map g ks → (k : ℕ) → Member k ks → f k ≡ g k
map_member f g [] e k m = absurd (Memᴰ.not-nil m)
map_member f g (x ∷ ks) e k m =
    let here : f x ≡ g x = cc in
    let more : map f ks ≡ map g ks = cc in
    ⊎_elim (λ s. ap f s ∙ here ∙ sym (ap g s)) (λ n. map_member f g ks more k n) (Memᴰ.cases_cons m)

-- what `all` answers over numbers in a row
pub every_all : (p : ℕ → Bool) (k n : ℕ) → list_all p (range_with_len k n) ≡ every p (range k n)
unfolding every range
every_all p k zero = refl
every_all p k (suc n) = rw add-one (ap (λ (t : Bool). p k && t) (every_all p (suc k) n))

module _ (p : ℕ → Bool) (k to : ℕ) where
  pub every_turn : k ≤ to → p k ≡ true → every p (range k (to + 1 - k)) ≡ every p (range (k + 1) (to + 1 - (k + 1)))
  unfolding every range
  every_turn h e =
      let more : to + 1 - k ≡ suc (to + 1 - suc k) = omega arith in
      rw (more, add-one k, e)

  pub every_stop : k ≤ to → p k ≡ false → every p (range k (to + 1 - k)) ≡ false
  unfolding every range
  every_stop h e =
      let more : to + 1 - k ≡ suc (to + 1 - suc k) = omega arith in
      rw (more, e)

  pub every_done : to < k → every p (range k (to + 1 - k)) ≡ true
  unfolding every range
  every_done h =
      let none : to + 1 - k ≡ 0 = omega arith in
      rw none
