-- What is left once each kind was tried: no candidate agrees with it, without any one kind of it one does, and which kinds are left.
-- Assumes nothing.
use Prim.Native.Nat.{ℕ, zero, suc, ◌+◌, ◌-◌, ◌≤◌, ◌<◌}
use mathlib.Core.Bool.{Bool, true, false, true≢false, false≢true}
use mathlib.Core.List.{List, [], ◌∷◌, Memᴰ as Member}
use mathlib.Core.Logic.{◌⊎◌, ◌↔◌, inl, inr, ⊎_elim}
use mathlib.Core.Path.{◌≡◌, refl, sym, ap, ◌∙◌}
use native.Mathlib.Decide.{ℕ_discrete, dec_le}
use native.Mathlib.Nat.{lt_of_not-le, add-zero}
use native.Mathlib.Omega.{arith}
use lib.ListN.{length, get_or-eq_default}
use lib.Seq.{get_or-set_same, get_or-set_other, set_out}
use Rattle.calendar.specs.Calendar.{days, date_of}
use Rattle.agreement.specs.Agreement.{said, date_agrees, day_agrees, hour_agrees}
use Rattle.agreement.specs.Demand.{IsDay, IsHour, AllAgree}
use Rattle.agreement.specs.Verdicts.{days_found}
use Rattle.agreement.specs.declared.Facts.{Facts}
use Rattle.agreement.specs.declared.Found.{Found}
use Rattle.agreement.specs.declared.Found.TheVariants.{Nothing, One, Two}
use Rattle.agreement.proofs.Demand.{all_agree_lem, agree_all}
use Rattle.agreement.proofs.Tells.{Tells, none, single, double, tells}
use Rattle.kinds.specs.Kinds.{day_kinds, hour_kinds}
use Rattle.laws.specs.Lists.{range}
use Rattle.laws.proofs.Cases.{either}
use Rattle.values.specs.Values.{date_value, hour_value}
use Rattle.reasons.specs.Private.{first_kind, last_kind}
use Rattle.reasons.specs.Quarrels.{kinds_of, is_nothing, none_agrees, without, tried, all_tried, quarrelling}
use Rattle.reasons.specs.declared.About.{About}
use Rattle.reasons.specs.declared.About.TheVariants.{Day, Hour}
use Rattle.reasons.proofs.Ranges.{kinds_row}
use Rattle.reasons.proofs.Trying.{without_unsaid, tried_out, tried_kept}

-- ---- candidates: days by their day numbers, and hours

unfoldable pub Candidate : About → ℕ → Type 0
Candidate Day d = IsDay d
Candidate Hour h = IsHour h

unfoldable pub value_of : About → ℕ → ℕ → ℕ
value_of Day d k = date_value k (date_of d)
value_of Hour h k = hour_value k h

-- a candidate agrees with facts
abbrev pub Agrees : About → Facts → ℕ → Type 0
Agrees a f d = AllAgree f (kinds_of a) (value_of a d)

-- what the first two of a range of numbers tell of whether there is any
module _ (p : ℕ → Bool) (from n : ℕ) where
  none_found : (h : Found) → Tells p from (from + n) h → is_nothing h ≡ true → (k : ℕ) → from ≤ k → k < from + n → p k ≡ false
  unfolding is_nothing
  none_found Nothing (none f) e = f
  none_found (One a) t e = absurd (false≢true e)
  none_found (Two a b) t e = absurd (false≢true e)

  some-found : (h : Found) → Tells p from (from + n) h → is_nothing h ≡ false
      → (k : ℕ) × (from ≤ k) × (k < from + n) × (p k ≡ true)
  unfolding is_nothing
  some-found Nothing t e = absurd (true≢false e)
  some-found (One a) (single l m q f) e = (a, l, m, q)
  some-found (Two a b) (double l m o q r f) e = (a, l, omega arith, q)

pub none_agrees_lem : (a : About) (f : Facts) → none_agrees a f ≡ true → (d : ℕ) → Candidate a d → Agrees a f d → ⊥
unfolding none_agrees Candidate value_of kinds_of days_found day_agrees date_agrees hour_agrees
none_agrees_lem Day f e d i g =
    false≢true
    (sym (none_found (day_agrees f) 1 days _ (tells (day_agrees f) 1 days) e d i.0 (omega arith))
    ∙ agree_all f day_kinds (λ k. date_value k (date_of d)) g)
none_agrees_lem Hour f e h i g =
    false≢true
    (sym (none_found (hour_agrees f) 0 24 _ (tells (hour_agrees f) 0 24) e h (omega arith) (omega arith))
    ∙ agree_all f hour_kinds (λ k. hour_value k h) g)

pub some_agrees : (a : About) (f : Facts) → none_agrees a f ≡ false → (d : ℕ) × Candidate a d × Agrees a f d
unfolding none_agrees Candidate value_of kinds_of days_found day_agrees date_agrees hour_agrees
some_agrees Day f e =
    let r = some-found (day_agrees f) 1 days _ (tells (day_agrees f) 1 days) e in
    (r.0, (r.1, omega (arith, r.2)), all_agree_lem f day_kinds (λ k. date_value k (date_of r.0)) r.3)
some_agrees Hour f e =
    let r = some-found (hour_agrees f) 0 24 _ (tells (hour_agrees f) 0 24) e in
    (r.0, omega (arith, r.2), all_agree_lem f hour_kinds (λ k. hour_value k r.0) r.3)

-- ---- fewer facts

-- all that g says f says too
abbrev pub Fewer : Facts → Facts → Type 0
Fewer g f = (k n : ℕ) → said g k ≡ suc n → said f k ≡ suc n

pub fewer_agrees : (a : About) (f g : Facts) → Fewer g f → (d : ℕ) → Agrees a f d → Agrees a g d
fewer_agrees a f g l d h k n m e = h k n m (l k n e)

module _ (k : ℕ) (f : Facts) where
  pub without_same : said (without k f) k ≡ 0
  unfolding without
  without_same =
      elim (dec_le (length f.said) k) [
        | yes h ↦ rw (set_out f.said k 0 h) (get_or-eq_default f.said 0 h)
        | no h ↦ get_or-set_same f.said k 0 0 (lt_of_not-le h)
      ]

  pub without_other : (j : ℕ) → (j ≡ k → ⊥) → said (without k f) j ≡ said f j
  unfolding without
  without_other j d = get_or-set_other f.said k j 0 0 d

  pub without_fewer : Fewer (without k f) f
  without_fewer j n e = go (ℕ_discrete j k)
    where
      go : Dec (j ≡ k) → said f j ≡ suc n
      go (yes q) = absurd (omega (arith, without_same, rw q at e))
      go (no q) = sym (without_other j q) ∙ e

-- the same kind left out of fewer facts
pub without_both : (k : ℕ) (f g : Facts) → Fewer g f → Fewer (without k g) (without k f)
without_both k f g l j n e = go (ℕ_discrete j k)
  where
    go : Dec (j ≡ k) → said (without k f) j ≡ suc n
    go (yes q) = absurd (omega (arith, without_same k g, rw q at e))
    go (no q) = without_other k f j q ∙ l j n (sym (without_other k g j q) ∙ e)

-- ---- kinds tried one after the other
module _ (a : About) where
  tried-fewer : (k : ℕ) (f : Facts) → Fewer (tried a k f) f
  unfolding tried
  tried-fewer k f =
      either (λ (g : Facts). Fewer g f) (none_agrees a (without k f)) (λ e. without_fewer k f) (λ e j n q. q)

  tried-none : (k : ℕ) (f : Facts) → none_agrees a f ≡ true → none_agrees a (tried a k f) ≡ true
  unfolding tried
  tried-none k f h = either (λ (g : Facts). none_agrees a g ≡ true) (none_agrees a (without k f)) (λ e. e) (λ e. h)

  tried_other : (k : ℕ) (f : Facts) (j : ℕ) → (j ≡ k → ⊥) → said (tried a k f) j ≡ said f j
  unfolding tried
  tried_other k f j d =
      either (λ (g : Facts). said g j ≡ said f j) (none_agrees a (without k f)) (λ e. without_other k f j d) (λ e. refl)

  all-fewer : (ks : List ℕ) (f : Facts) → Fewer (all_tried a ks f) f
  unfolding all_tried
  all-fewer [] f j n e = e
  all-fewer (k ∷ ks) f j n e = tried-fewer k f j n (all-fewer ks (tried a k f) j n e)

  all_none : (ks : List ℕ) (f : Facts) → none_agrees a f ≡ true → none_agrees a (all_tried a ks f) ≡ true
  unfolding all_tried
  all_none [] f h = h
  all_none (k ∷ ks) f h = all_none ks (tried a k f) (tried-none k f h)

  -- kinds outside of a row are left as they are
  row_other : (n k : ℕ) (f : Facts) (j : ℕ) → (j < k) ⊎ (k + n ≤ j) → said (all_tried a (range k n) f) j ≡ said f j
  unfolding all_tried range
  row_other zero k f j h = refl
  row_other (suc n) k f j h =
      let away : j ≡ k → ⊥ = λ e. ⊎_elim (λ (l : j < k). omega arith) (λ (l : k + suc n ≤ j). omega arith) h in
      let on : (j < suc k) ⊎ (suc k + n ≤ j)
      = ⊎_elim (λ (l : j < k). inl (omega arith)) (λ (l : k + suc n ≤ j). inr (omega arith)) h in
      row_other n (suc k) (tried a k f) j on ∙ tried_other k f j away

  -- one row after the other
  row-then : (m n k : ℕ) (f : Facts) → all_tried a (range k (m + n)) f ≡ all_tried a (range (k + m) n) (all_tried a (range k m) f)
  unfolding all_tried range
  row-then zero n k f =
      let same : zero + n ≡ n = omega arith in
      rw (same, add-zero)
  row-then (suc m) n k f =
      let more : suc m + n ≡ suc (m + n) = omega arith in
      let next : k + suc m ≡ suc k + m = omega arith in
      rw (more, next) (row-then m n (suc k) (tried a k f))

-- ---- where each kind stood when it was tried
module _ (a : About) (f : Facts) (none_at_all : none_agrees a f ≡ true) (k : ℕ) (l : first_kind a ≤ k) (h : k ≤ last_kind a) where
  -- the facts then, and at the end
  then : Facts
  then = all_tried a (range (first_kind a) (k - first_kind a)) f

  abbrev left : Facts
  left = quarrelling a f

  left_is : left ≡ all_tried a (range (k + 1) (last_kind a - k)) (tried a k then)
  unfolding quarrelling then all_tried range
  left_is =
      let split : last_kind a + 1 - first_kind a ≡ (k - first_kind a) + suc (last_kind a - k) = omega arith in
      let at : first_kind a + (k - first_kind a) ≡ k = omega arith in
      let next : k + 1 ≡ suc k = omega arith in
      rw (← kinds_row a, split, row-then a (k - first_kind a) (suc (last_kind a - k)) (first_kind a) f, at, next)

  -- before it stood what is left of the kinds before, and all that was said of those after
  then-before : (j : ℕ) → j < k → said then j ≡ said left j
  then-before j m =
      let away : j ≡ k → ⊥ = λ e. omega arith in
      sym
      (ap (λ (g : Facts). said g j) left_is ∙ row_other a (last_kind a - k) (k + 1) (tried a k then) j (inl (omega arith))
      ∙ tried_other a k then j away)

  then-after : (j : ℕ) → k ≤ j → said then j ≡ said f j
  unfolding then
  then-after j m = row_other a (k - first_kind a) (first_kind a) f j (inr (omega arith))

  left_here : said left k ≡ said (tried a k then) k
  left_here = ap (λ (g : Facts). said g k) left_is ∙ row_other a (last_kind a - k) (k + 1) (tried a k then) k (inl (omega arith))

  then_none : none_agrees a then ≡ true
  unfolding then
  then_none = all_none a _ f none_at_all

  -- it is left exactly if without it some candidate agrees
  left-needed : (said left k ≡ 0 → ⊥) → none_agrees a (without k then) ≡ false
  left-needed d = go (none_agrees a (without k then)) refl
    where
      go : (b : Bool) → none_agrees a (without k then) ≡ b → b ≡ false
      go false e = refl
      go true e = absurd (d (left_here ∙ ap (λ (g : Facts). said g k) (tried_out a k then e) ∙ without_same k then))

  needed-left : none_agrees a (without k then) ≡ false → said left k ≡ 0 → ⊥
  needed-left e z =
      let unsaid : said then k ≡ 0 = sym (ap (λ (g : Facts). said g k) (tried_kept a k then e)) ∙ sym left_here ∙ z in
      true≢false (sym then_none ∙ sym (ap (none_agrees a) (without_unsaid k then unsaid)) ∙ e)

  left-fewer-then : Fewer left then
  left-fewer-then j n e =
      tried-fewer a k then j n (all-fewer a (range (k + 1) (last_kind a - k)) (tried a k then) j n (rw (← left_is) e))

-- ---- the kinds that are left

-- a candidate agrees with what is left before kind k, and with all that was said after it
abbrev pub AgreesAround : About → Facts → ℕ → ℕ → Type 0
AgreesAround a f k d =
    (j n : ℕ) → Member j (kinds_of a) → ((j < k) × (said (quarrelling a f) j ≡ suc n)) ⊎ ((k < j) × (said f j ≡ suc n))
    → value_of a d j ≡ n

pub record Minimal (a : About) (f : Facts) : Type 0 where
  pub fewer : Fewer (quarrelling a f) f
  pub together : (d : ℕ) → Candidate a d → Agrees a (quarrelling a f) d → ⊥
  pub each_needed : (k : ℕ) → first_kind a ≤ k → k ≤ last_kind a → (said (quarrelling a f) k ≡ 0 → ⊥)
      → (d : ℕ) × Candidate a d × Agrees a (without k (quarrelling a f)) d
  pub in_order : (k : ℕ) → first_kind a ≤ k → k ≤ last_kind a
      → (said (quarrelling a f) k ≡ 0 → ⊥) ↔ ((d : ℕ) × Candidate a d × AgreesAround a f k d)

pub minimal : (a : About) (f : Facts) → none_agrees a f ≡ true → Minimal a f
unfolding quarrelling
minimal a f e =
    record {
      fewer = all-fewer a (kinds_of a) f;
      together = none_agrees_lem a (quarrelling a f) (all_none a (kinds_of a) f e);
      each_needed = λ k l h d.
          let r = some_agrees a (without k (then a f e k l h)) (left-needed a f e k l h d) in (
            r.0,
            r.1,
            fewer_agrees a (without k (then a f e k l h)) (without k (quarrelling a f))
                (without_both k (then a f e k l h) (quarrelling a f) (left-fewer-then a f e k l h)) r.0 r.2,
          );
      in_order = λ k l h. (
        λ d.
            let r = some_agrees a (without k (then a f e k l h)) (left-needed a f e k l h d) in
            (r.0, r.1, around k l h r.0 r.2),
        λ r. needed-left a f e k l h (not_none (without k (then a f e k l h)) r.0 r.1 (within k l h r.0 r.2)),
      );
    }
  where
    -- agreeing with what stood there without the kind is agreeing around it
    around : (k : ℕ) (l : first_kind a ≤ k) (h : k ≤ last_kind a) (d : ℕ) → Agrees a (without k (then a f e k l h)) d
        → AgreesAround a f k d
    around k l h d g j n m z =
        ⊎_elim
        (λ (y : (j < k) × (said (quarrelling a f) j ≡ suc n)).
        let away : j ≡ k → ⊥ = λ q. omega (arith, y.0) in
        g j n m (without_other k (then a f e k l h) j away ∙ then-before a f e k l h j y.0 ∙ y.1))
        (λ (y : (k < j) × (said f j ≡ suc n)).
        let away : j ≡ k → ⊥ = λ q. omega (arith, y.0) in
        g j n m (without_other k (then a f e k l h) j away ∙ then-after a f e k l h j (omega (arith, y.0)) ∙ y.1))
        z

    within : (k : ℕ) (l : first_kind a ≤ k) (h : k ≤ last_kind a) (d : ℕ) → AgreesAround a f k d
        → Agrees a (without k (then a f e k l h)) d
    within k l h d g j n m z = go (ℕ_discrete j k)
      where
        go : Dec (j ≡ k) → value_of a d j ≡ n
        go (yes q) = absurd (omega (arith, without_same k (then a f e k l h), rw q at z))
        go (no q) = by (dec_le j k)
          where
            here : said (then a f e k l h) j ≡ suc n
            here = sym (without_other k (then a f e k l h) j q) ∙ z

            by : Dec (j ≤ k) → value_of a d j ≡ n
            by (yes y) = g j n m (inl (omega arith, sym (then-before a f e k l h j (omega arith)) ∙ here))
            by (no y) = let w = lt_of_not-le y in g j n m (inr (w, sym (then-after a f e k l h j (omega arith)) ∙ here))

    not_none : (g : Facts) (d : ℕ) → Candidate a d → Agrees a g d → none_agrees a g ≡ false
    not_none g d i x = go (none_agrees a g) refl
      where
        go : (b : Bool) → none_agrees a g ≡ b → b ≡ false
        go false q = refl
        go true q = absurd (none_agrees_lem a g q d i x)
