-- The words of a table: one sheet more of a week, and whether a week is among them, by where its first bits would stand.
-- Assumes nothing.
use Prim.Native.Nat.{ℕ, zero, suc, ◌+◌, ◌-◌, ◌*◌, ◌/◌, ◌≤◌, ◌<◌}
use mathlib.Core.Bool.{true, false, ◌&&◌, and-eq-true_iff}
use mathlib.Core.List.{List, [], ◌∷◌, map}
use mathlib.Core.Path.{◌≡◌, refl, sym, ap, ◌∙◌}
use native.Mathlib.Decide.{dec_lt, ℕ_discrete}
use native.Mathlib.Omega.{arith}
use borrow.Author.Tests.{lt-ltb, le-ltb, le-leb, eq-eqb, ne_eqb, ltb-true, eqb-true}
use lib.Dec.{eqb, ltb}
use lib.ListN.{length, get_or, set}
use Rattle.laws.proofs.Cases.{clash}
use Rattle.sheets.specs.Packing.{bits, packed}
use Rattle.sheet_list.specs.Ascending.{ascending_from, below}
use Rattle.sheet_list.specs.Private.{put_at, week, counted_in, week_in, is_week_at}
use Rattle.sheet_list.specs.Rules.{Rising}
use Rattle.sheet_list.specs.Weeks.{Tally, tally, counted, tally_widths, tally_word, has_week}
use Rattle.sheet_list.proofs.Counting.{Cases, cases, counted_less, counted_same, counted_more, Most}
use Rattle.sheet_list.proofs.Counting.Cases.{less, same, more}
use Rattle.sheet_list.proofs.Ranks.{first_rest}

-- ---- by where the week's first bits would stand

module _ (k x : ℕ) (t : List ℕ) where
  below-lower : x / week < k → below (k * week) (x ∷ t) ≡ suc (below (k * week) t)
  unfolding below
  below-lower h = rw (lt-ltb x (k * week) (omega arith))

  below-not : k ≤ x / week → below (k * week) (x ∷ t) ≡ 0
  unfolding below
  below-not h = rw (le-ltb x (k * week) (omega arith))

  -- a rank tells whether the first word is lower
  first-lower : {n : ℕ} → suc n ≡ below (k * week) (x ∷ t) → (x / week < k) × (n ≡ below (k * week) t)
  first-lower e =
      elim (dec_lt (x / week) k) [
        | yes h ↦ (h, omega (arith, e, below-lower h))
        | no h ↦ absurd (omega (arith, e, below-not (omega (arith, h))))
      ]

  first-not : 0 ≡ below (k * week) (x ∷ t) → k ≤ x / week
  first-not e =
      elim (dec_lt (x / week) k) [
        | yes h ↦ absurd (omega (arith, e, below-lower h))
        | no h ↦ omega (arith, h)
      ]

  in-less : k < x / week → counted_in k (x ∷ t) ≡ (k * week + 1) ∷ x ∷ t
  unfolding counted_in
  in-less h = rw (lt-ltb k (x / week) h)

  in-same : k ≡ x / week → counted_in k (x ∷ t) ≡ (x + 1) ∷ t
  unfolding counted_in
  in-same e = rw (le-ltb k (x / week) (omega (arith, e)), eq-eqb k (x / week) e)

  in-more : x / week < k → counted_in k (x ∷ t) ≡ x ∷ counted_in k t
  unfolding counted_in
  in-more h = rw (le-ltb k (x / week) (omega arith), ne_eqb k (x / week) (λ e. omega (arith, e)))

module _ (k : ℕ) where
  -- the word of a week that is there is one more
  pub counted_held : (t : List ℕ) (n : ℕ) → n ≡ below (k * week) t → n < length t → get_or t n 0 / week ≡ k
      → counted_in k t ≡ set t n (get_or t n 0 + 1)
  counted_held [] n e h g = absurd (omega arith)
  counted_held (x ∷ t) zero e h g = in-same k x t (sym g)
  counted_held (x ∷ t) (suc n) e h g =
      let f = first-lower k x t e in
      in-more k x t f.0 ∙ ap (λ (r : List ℕ). x ∷ r) (counted_held t n f.1 (omega arith) g)

  -- another is put where it belongs
  pub counted_new : (t : List ℕ) (n : ℕ) → n ≡ below (k * week) t → (n < length t → get_or t n 0 / week ≡ k → ⊥)
      → counted_in k t ≡ put_at n (k * week + 1) t
  unfolding put_at
  counted_new [] zero e h = unfold counted_in in refl
  counted_new [] (suc n) e h = unfold below in absurd (omega (arith, e))
  counted_new (x ∷ t) zero e h =
      let g : x / week ≡ k → ⊥ = h (omega arith) in
      elim (ℕ_discrete (x / week) k) [
        | yes f ↦ absurd (g f)
        | no f ↦ in-less k x t (omega (arith, first-not k x t e, f))
      ]
  counted_new (x ∷ t) (suc n) e h =
      let f = first-lower k x t e in
      in-more k x t f.0 ∙ ap (λ (r : List ℕ). x ∷ r) (counted_new t n f.1 (λ l g. h (omega arith) g))

  -- no word from a later week on is of the week
  none_in : (low : ℕ) (t : List ℕ) → ascending_from low t ≡ true → k < low / week → week_in k t ≡ false
  unfolding week_in
  none_in low [] a h = refl
  none_in low (x ∷ t) a h =
      let b = first_rest low x t a in
      let g : k < x / week = omega (arith, b.0) in
      rw (ne_eqb k (x / week) (λ e. omega (arith, e))) (none_in x t b.1 g)

  pub week_in_lem : (low : ℕ) (t : List ℕ) (n : ℕ) → ascending_from low t ≡ true → n ≡ below (k * week) t → n < length t
      → week_in k t ≡ eqb (get_or t n 0 / week) k
  unfolding week_in
  week_in_lem low [] n a e h = absurd (omega arith)
  week_in_lem low (x ∷ t) zero a e h =
      let b = first_rest low x t a in
      elim (ℕ_discrete (x / week) k) [
        | yes f ↦ rw (eq-eqb (x / week) k f, eq-eqb k (x / week) (sym f))
        | no f ↦
            let l : k < x / week = omega (arith, first-not k x t e, f) in
            rw (ne_eqb (x / week) k f, ne_eqb k (x / week) (λ g. f (sym g))) (none_in x t b.1 l)
      ]
  week_in_lem low (x ∷ t) (suc n) a e h =
      let f = first-lower k x t e in
      rw (ne_eqb k (x / week) (λ g. omega (arith, g, f.0))) (week_in_lem x t n (first_rest low x t a).1 f.1 (omega arith))

  pub week_out : (t : List ℕ) (n : ℕ) → n ≡ below (k * week) t → length t ≤ n → week_in k t ≡ false
  unfolding week_in
  week_out [] n e h = refl
  week_out (x ∷ t) zero e h = absurd (omega arith)
  week_out (x ∷ t) (suc n) e h =
      let f = first-lower k x t e in
      rw (ne_eqb k (x / week) (λ g. omega (arith, g, f.0))) (week_out t n f.1 (omega arith))

-- the same by whether the word at the rank is that of the week
module _ (k : ℕ) (t : List ℕ) {n : ℕ} (e : n ≡ below (k * week) t) where
  pub at_held : is_week_at k n t ≡ true → (n < length t) × (get_or t n 0 / week ≡ k)
  unfolding is_week_at
  at_held h =
      let b = (and-eq-true_iff (ltb n (length t)) (eqb (get_or t n 0 / week) k)).0 h in
      (ltb-true n (length t) b.0, eqb-true (get_or t n 0 / week) k b.1)

  pub at_new : is_week_at k n t ≡ false → counted_in k t ≡ put_at n (k * week + 1) t
  unfolding is_week_at
  at_new h =
      counted_new k t n e
      (λ l g. clash (let z : (ltb n (length t) && eqb (get_or t n 0 / week) k) ≡ true = rw (lt-ltb n (length t) l, eq-eqb _ k g) in cc))

  pub week_at : (low : ℕ) → ascending_from low t ≡ true → is_week_at k n t ≡ week_in k t
  unfolding is_week_at
  week_at low a =
      elim (dec_lt n (length t)) [
        | yes h ↦ rw (lt-ltb n (length t) h) (sym (week_in_lem k low t n a e h))
        | no h ↦ rw (le-ltb n (length t) (omega (arith, h))) (sym (week_out k t n e (omega (arith, h))))
      ]

-- ---- the words of weeks with few enough sheets

pub word_is : (t : Tally) → tally_word t ≡ t.week * week + t.sheets
unfolding tally_word tally_widths packed bits
word_is t = omega arith

-- as it is worked out
pub entry_is : {k e : ℕ} (i l n : ℕ) → k ≡ l → e ≡ i + n → k * week + (e - i) ≡ tally_word (tally l n)
entry_is i l n p q = omega (arith, p, q, word_is (tally l n))

pub word_week : (t : Tally) → t.sheets < week → tally_word t / week ≡ t.week
word_week t h = omega (arith, word_is t)

module _ (n k : ℕ) (h : n < week) where
  pub counted_words : (ts : List Tally) → Most n ts → counted_in k (map tally_word ts) ≡ map tally_word (counted k ts)
  unfolding Most
  counted_words [] m = unfold counted_in counted in ap (λ (x : ℕ). x ∷ []) (sym (word_is (tally k 1)))
  counted_words (t ∷ ts) m = go (counted_words ts m.1) (cases k t.week)
    where
      w : tally_word t / week ≡ t.week
      w = word_week t (omega (arith, m.0))

      go : counted_in k (map tally_word ts) ≡ map tally_word (counted k ts) → Cases k t.week
          → counted_in k (tally_word t ∷ map tally_word ts) ≡ map tally_word (counted k (t ∷ ts))
      go later (less g) =
          in-less k (tally_word t) (map tally_word ts) (rw w g)
          ∙ rw (counted_less k t ts g) (ap (λ (x : ℕ). x ∷ tally_word t ∷ map tally_word ts) (sym (word_is (tally k 1))))
      go later (same g) =
          in-same k (tally_word t) (map tally_word ts) (g ∙ sym w)
          ∙ rw (counted_same k t ts g)
          (ap (λ (x : ℕ). x ∷ map tally_word ts) (omega (arith, word_is t, word_is (tally k (suc t.sheets)), g)))
      go later (more g) =
          in-more k (tally_word t) (map tally_word ts) (rw w g)
          ∙ rw (counted_more k t ts g) (ap (λ (r : List ℕ). tally_word t ∷ r) later)

  pub in_words : (ts : List Tally) → Most n ts → week_in k (map tally_word ts) ≡ has_week k ts
  unfolding Most week_in has_week
  in_words [] m = refl
  in_words (t ∷ ts) m = rw (word_week t (omega (arith, m.0)), in_words ts m.1)

-- they ascend
pub table_ascends : (n b low : ℕ) (ts : List Tally) → n < week → b ≤ low * week → Rising low ts → Most n ts
    → ascending_from b (map tally_word ts) ≡ true
unfolding ascending_from Rising Most
table_ascends n b low [] h l r m = refl
table_ascends n b low (t ∷ ts) h l r m =
    rw (le-leb b (tally_word t) (omega (arith, word_is t, r.0)))
    (table_ascends n (tally_word t) (suc t.week) ts h (omega (arith, word_is t, m.0)) r.2 m.1)
