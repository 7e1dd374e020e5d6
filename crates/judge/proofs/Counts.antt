-- Sums over the numbers that pass a test, and how many years end in a number.
-- Assumes nothing.
use Prim.Native.Nat.{ℕ, zero, suc, ◌+◌, ◌-◌, ◌*◌, ◌/◌, ◌%◌, ◌≤◌, ◌<◌, min}
use mathlib.Core.Bool.{Bool, true, false, cond, not, ◌&&◌, and-false, and-true}
use mathlib.Core.Logic.{⊎_elim}
use mathlib.Core.Path.{◌≡◌, refl, sym, ap, ◌∙◌}
use native.Mathlib.Decide.{dec_le, ℕ_discrete}
use native.Mathlib.Nat.{eq-or-lt_of_le, lt_of_not-le, mul-add, mul-suc, mul-zero, suc-add, zero-add, div-eq_of_lt}
use native.Mathlib.Omega.{arith}
use borrow.Author.Tests.{le-leb, lt-leb, eq-eqb, ne_eqb}
use lib.Dec.{eqb, leb, lit<}
use lib.ListN.{get_or}
use Rattle.laws.proofs.Cases.{picked}
use Rattle.calendar.specs.Calendar.{sum, leap, year_length, month_lengths, month_length, within, day_of_year}
use Rattle.calendar.proofs.Months.{no_month, year_months, month_most, year_length_most}
use Rattle.calendar.proofs.Sum.{sum_same}
use Rattle.calendar.proofs.Years.{grows, leap_years}
use Rattle.agreement.specs.Agreement.{said, agrees}
use Rattle.agreement.specs.declared.Facts.{Facts}
use Rattle.judge.specs.Private.{sum_where, count_where, said_days, ending_years, leap_ending_years, ending_days, in_year}
use Rattle.kinds.specs.Kinds as kinds

-- ---- sums where a test passes

pub sum_none : (n : ℕ) → sum (λ i. 0) n ≡ 0
unfolding sum
sum_none zero = refl
sum_none (suc n) = omega (arith, sum_none n)

sum_ones : (n : ℕ) → sum (λ i. 1) n ≡ n
unfolding sum
sum_ones zero = refl
sum_ones (suc n) = omega (arith, sum_ones n)

module _ (p : ℕ → Bool) (h : ℕ → ℕ) (n : ℕ) where
  -- no number passes
  where-none : ((i : ℕ) → 0 < i → i ≤ n → p i ≡ false) → sum_where p h n ≡ 0
  where-none e = sum_same _ _ n (λ i l m. rw (e i l m)) ∙ sum_none n

  -- the same numbers pass
  where-same : (q : ℕ → Bool) → ((i : ℕ) → 0 < i → i ≤ n → p i ≡ q i) → sum_where p h n ≡ sum_where q h n
  where-same q e = sum_same _ _ n (λ i l m. rw (e i l m))

-- the test is the same for all
pub count_all : (p : ℕ → Bool) (b : Bool) (n : ℕ) → ((i : ℕ) → 0 < i → i ≤ n → p i ≡ b) → count_where p n ≡ cond b n 0
count_all p true n e = sum_same _ _ n (λ i l m. rw (e i l m)) ∙ sum_ones n
count_all p false n e = where-none p (λ i. 1) n e

-- no term is more than m
pub where_most : (p : ℕ → Bool) (h : ℕ → ℕ) (m : ℕ) → ((i : ℕ) → h i ≤ m) → (n : ℕ) → sum_where p h n ≤ m * n
unfolding sum
where_most p h m e zero = omega arith
where_most p h m e (suc n) =
    rw (mul-suc m n)
    (picked (λ (x : ℕ). sum_where p h n + x ≤ m * n + m) (p (suc n))
    (omega (arith, where_most p h m e n, e (suc n)))
    (omega (arith, where_most p h m e n)))

-- one number passes
module _ (h : ℕ → ℕ) (z : h 0 ≡ 0) (a : ℕ) where
  where-one : (n : ℕ) → sum_where (eqb a) h n ≡ cond (leb a n) (h a) 0
  unfolding sum
  where-one zero =
      elim (dec_le a 0) [
        | yes l ↦ (let e : a ≡ 0 = omega arith in rw (e, z))
        | no l ↦ rw (lt-leb a 0 (lt_of_not-le l))
      ]
  where-one (suc n) =
      elim (dec_le a n) [
        | yes l ↦ rw (where-one n, le-leb a n l, le-leb a (suc n) (omega arith), ne_eqb a (suc n) (λ (e : a ≡ suc n). omega arith))
            (omega arith)
        | no l ↦ ⊎_elim
            (λ (e : suc n ≡ a).
            rw (where-one n, lt-leb a n (omega arith), le-leb a (suc n) (omega arith), eq-eqb a (suc n) (sym e), e) (omega arith))
            (λ (m : suc n < a).
            rw (where-one n, lt-leb a n (omega arith), lt-leb a (suc n) m, ne_eqb a (suc n) (λ (e : a ≡ suc n). omega arith)))
            (eq-or-lt_of_le (omega (arith, lt_of_not-le l)))
      ]

-- the numbers from a to b pass
module _ (a b : ℕ) where
  within-below : (i : ℕ) → i < a → within a b i ≡ false
  within-below i l = rw (lt-leb a i l)

  within-above : (i : ℕ) → b < i → within a b i ≡ false
  within-above i l = rw (lt-leb i b l) (and-false (leb a i))

  pub within_both : (i : ℕ) → a ≤ i → i ≤ b → within a b i ≡ true
  within_both i l m = rw (le-leb a i l, le-leb i b m)

  module _ (h : ℕ → ℕ) where
    pub where_within : (n : ℕ) → sum_where (within a b) h n + sum h (min (min n b) (a - 1)) ≡ sum h (min n b)
    unfolding sum
    where_within zero =
        let e : min 0 b ≡ 0 = omega arith in
        let f : min 0 (a - 1) ≡ 0 = omega arith in
        rw (e, f)
    where_within (suc n) =
        elim (dec_le b n) [
          | yes l ↦
              (let e : min (suc n) b ≡ b = omega arith in
              let f : min n b ≡ b = omega arith in
              rw (e, within-above (suc n) (omega arith)) (omega (arith, rw f at (where_within n))))
          | no l ↦
              (let m = lt_of_not-le l in
              let e : min (suc n) b ≡ suc n = omega arith in
              let f : min n b ≡ n = omega arith in
              elim (dec_le a (suc n)) [
                | yes o ↦
                    (let u : min (suc n) (a - 1) ≡ a - 1 = omega arith in
                    let v : min n (a - 1) ≡ a - 1 = omega arith in
                    rw (e, u, within_both (suc n) o m) (omega (arith, rw (f, v) at (where_within n))))
                | no o ↦
                    (let u : min (suc n) (a - 1) ≡ suc n = omega (arith, lt_of_not-le o) in
                    let v : min n (a - 1) ≡ n = omega (arith, lt_of_not-le o) in
                    rw (e, u, within-below (suc n) (lt_of_not-le o)) (omega (arith, rw (f, v) at (where_within n))))
              ])
        ]

-- the terms have one of two values: those of a second test, and the others
module _ (p q : ℕ → Bool) where
  count-parts : (n : ℕ) → count_where p n ≡ count_where (λ i. p i && q i) n + count_where (λ i. p i && not (q i)) n
  unfolding sum
  count-parts zero = refl
  count-parts (suc n) = omega (arith, count-parts n, parts (p (suc n)) (q (suc n)))
    where
      parts : (b c : Bool) → cond b 1 0 ≡ cond (b && c) 1 0 + cond (b && not c) 1 0
      parts true true = refl
      parts true false = refl
      parts false c = refl

  module _ (a b : ℕ) where
    where-parts : (n : ℕ)
        → sum_where p (λ i. cond (q i) a b) n ≡ a * count_where (λ i. p i && q i) n + b * count_where (λ i. p i && not (q i)) n
    unfolding sum
    where-parts zero = rw (mul-zero a, mul-zero b)
    where-parts (suc n) =
        rw (mul-add a, mul-add b) (omega (arith, where-parts n, parts (p (suc n)) (q (suc n))))
      where
        parts : (c d : Bool) → cond c (cond d a b) 0 ≡ a * cond (c && d) 1 0 + b * cond (c && not d) 1 0
        parts true true = omega arith
        parts true false = omega arith
        parts false d = omega arith

-- ---- the years that end in a number

agrees_said : (s v : ℕ) → 0 < s → agrees s v ≡ eqb (s - 1) v
unfolding agrees
agrees_said s v h = rw (ne_eqb s 0 (λ (e : s ≡ 0). omega arith))

agrees_unsaid : (s v : ℕ) → s ≡ 0 → agrees s v ≡ true
unfolding agrees
agrees_unsaid s v e = rw e

pub ending_unsaid : (s n : ℕ) → s ≡ 0 → n ≡ ending_years s n
unfolding ending_years
ending_unsaid s n e = sym (count_all _ true n (λ i l m. agrees_unsaid s (i % 100) e))

pub leap_unsaid : (s n : ℕ) → s ≡ 0 → n / 4 - n / 100 + n / 400 ≡ leap_ending_years s n
unfolding leap_ending_years
leap_unsaid s n e =
    let t : leap_ending_years s n ≡ count_where (λ i. leap i) n
    = where-same (λ i. agrees s (i % 100) && leap i) (λ i. 1) n (λ i. leap i) (λ i l m. rw (agrees_unsaid s (i % 100) e)) in
    omega (arith, t, leap_years n)

-- the quotient grows where the remainder turns to 0
count_turns : (d c : ℕ) → 0 < d → c < d → (n : ℕ) → count_where (λ i. eqb ((i + c) % d) 0) n ≡ (n + c) / d
unfolding sum
count_turns d c l m zero = rw (zero-add c) (sym (div-eq_of_lt m))
count_turns d c l m (suc n) =
    rw (suc-add n c, grows d (n + c) l) (ap (λ (x : ℕ). x + cond (eqb (suc (n + c) % d) 0) 1 0) (count_turns d c l m n))

-- two tests that pass alike
same_test : (a b c d : ℕ) → (a ≡ b → c ≡ d) → (c ≡ d → a ≡ b) → eqb a b ≡ eqb c d
same_test a b c d f g =
    elim (ℕ_discrete a b) [
      | yes e ↦ eq-eqb a b e ∙ sym (eq-eqb c d (f e))
      | no e ↦ ne_eqb a b e ∙ sym (ne_eqb c d (λ x. e (g x)))
    ]

-- where a number was said
module _ (s n : ℕ) (h : 0 < s) where
  pub ending_none : 99 < s - 1 → 0 ≡ ending_years s n
  unfolding ending_years
  ending_none l =
      sym (where-none (λ i. agrees s (i % 100)) (λ i. 1) n
      (λ i _ _. agrees_said s (i % 100) h ∙ ne_eqb (s - 1) (i % 100) (λ (e : s - 1 ≡ i % 100). omega arith)))

  pub ending_some : s - 1 ≤ 99 → (n + (100 - (s - 1)) % 100) / 100 ≡ ending_years s n
  unfolding ending_years
  ending_some l =
      let c = (100 - (s - 1)) % 100 in
      sym (count_turns 100 c (lit< tt) (omega arith) n)
      ∙ where-same (λ i. eqb ((i + c) % 100) 0) (λ i. 1) n (λ i. agrees s (i % 100))
      (λ i _ _. same_test ((i + c) % 100) 0 (s - 1) (i % 100) (λ e. omega arith) (λ e. omega arith) ∙ sym (agrees_said s (i % 100) h))

  -- what was said is not the year's number in its century
  other : (i : ℕ) → (s - 1 ≡ i % 100 → ⊥) → agrees s (i % 100) ≡ false
  other i e = agrees_said s (i % 100) h ∙ ne_eqb (s - 1) (i % 100) e

  pub leap_none : ((s - 1) % 4 ≡ 0 → ⊥) → 0 ≡ leap_ending_years s n
  unfolding leap_ending_years
  leap_none z = sym (where-none (λ i. agrees s (i % 100) && leap i) (λ i. 1) n (λ i _ _. at i (ℕ_discrete (s - 1) (i % 100))))
    where
      at : (i : ℕ) → Dec (s - 1 ≡ i % 100) → (agrees s (i % 100) && leap i) ≡ false
      at i (yes e) =
          rw (ne_eqb (i % 4) 0 (λ (x : i % 4 ≡ 0). z (omega arith))) (and-false (agrees s (i % 100)))
      at i (no e) = rw (other i e)

  pub leap_centuries : s - 1 ≡ 0 → n / 400 ≡ leap_ending_years s n
  unfolding leap_ending_years
  leap_centuries z =
      let e : n / 400 ≡ (n + 0) / 400 = omega arith in
      e
      ∙ sym (count_turns 400 0 (lit< tt) (lit< tt) n)
      ∙ where-same (λ i. eqb ((i + 0) % 400) 0) (λ i. 1) n (λ i. agrees s (i % 100) && leap i)
      (λ i _ _. at i (ℕ_discrete (i % 400) 0) (ℕ_discrete (s - 1) (i % 100)))
    where
      at : (i : ℕ) → Dec (i % 400 ≡ 0) → Dec (s - 1 ≡ i % 100) → eqb ((i + 0) % 400) 0 ≡ (agrees s (i % 100) && leap i)
      at i (yes e) d =
          rw (
            eq-eqb ((i + 0) % 400) 0 (omega arith),
            agrees_said s (i % 100) h,
            eq-eqb (s - 1) (i % 100) (omega arith),
            eq-eqb (i % 4) 0 (omega arith),
            eq-eqb (i % 100) 0 (omega arith),
            eq-eqb (i % 400) 0 e,
          )
      at i (no e) (yes d) =
          rw (
            ne_eqb ((i + 0) % 400) 0 (λ (x : (i + 0) % 400 ≡ 0). e (omega arith)),
            eq-eqb (i % 100) 0 (omega arith),
            ne_eqb (i % 400) 0 e,
            and-false (eqb (i % 4) 0),
            and-false (agrees s (i % 100)),
          )
      at i (no e) (no d) = rw (ne_eqb ((i + 0) % 400) 0 (λ (x : (i + 0) % 400 ≡ 0). e (omega arith)), other i d)

  pub leap_all : (s - 1) % 4 ≡ 0 → (s - 1 ≡ 0 → ⊥) → ending_years s n ≡ leap_ending_years s n
  unfolding ending_years leap_ending_years
  leap_all z x =
      where-same (λ i. agrees s (i % 100)) (λ i. 1) n (λ i. agrees s (i % 100) && leap i)
      (λ i _ _. at i (ℕ_discrete (s - 1) (i % 100)))
    where
      at : (i : ℕ) → Dec (s - 1 ≡ i % 100) → agrees s (i % 100) ≡ (agrees s (i % 100) && leap i)
      at i (yes e) =
          rw (eq-eqb (i % 4) 0 (omega arith), ne_eqb (i % 100) 0 (λ (y : i % 100 ≡ 0). x (omega arith)))
          (sym (and-true (agrees s (i % 100))))
      at i (no e) = rw (other i e)

-- ---- the days of a year in the month that was said

-- they hang on the year by whether it is leap
said_by_leap : (s y : ℕ) → said_days s y ≡ cond (leap y) (said_days s 4) (said_days s 1)
unfolding said_days year_length month_length
said_by_leap s y = by (eqb s 0) (eqb (s - 1) 2) (leap y) (get_or month_lengths (s - 1) 0)
  where
    by : (a b c : Bool) (x : ℕ)
        → cond a (cond c 366 365) (cond (b && c) 29 x) ≡ cond c (cond a 366 (cond (b && true) 29 x)) (cond a 365 (cond (b && false) 29 x))
    by true b true x = refl
    by true b false x = refl
    by false b true x = refl
    by false b false x = refl

said_most : (s y : ℕ) → said_days s y ≤ 366
unfolding said_days
said_most s y = picked (λ (x : ℕ). x ≤ 366) (eqb s 0) (year_length_most y) (omega (arith, month_most y (s - 1)))

-- over all years that end in a number: years 4 and 1 stand for those that are leap and those that are not
module _ (f : Facts) (n : ℕ) where
  abbrev ending : ℕ
  ending = said f kinds.year_in_century

  abbrev month : ℕ
  month = said f kinds.month

  pub fewer_leap : leap_ending_years ending n ≤ ending_years ending n
  unfolding ending_years leap_ending_years
  fewer_leap = omega (arith, count-parts (λ i. agrees ending (i % 100)) (λ i. leap i) n)

  pub ending_days_is : said_days month 4 * leap_ending_years ending n + said_days month 1 *
      (ending_years ending n - leap_ending_years ending n)
      ≡ ending_days f n
  unfolding ending_days ending_years leap_ending_years
  ending_days_is =
      let p : ℕ → Bool = λ i. agrees ending (i % 100) in
      let e : count_where p n - count_where (λ i. p i && leap i) n ≡ count_where (λ i. p i && not (leap i)) n
      = omega (arith, count-parts p (λ i. leap i) n) in
      rw e
      (sym (sum_same _ _ n (λ i _ _. ap (λ (x : ℕ). cond (p i) x 0) (said_by_leap month i))
      ∙ where-parts p (λ i. leap i) (said_days month 4) (said_days month 1) n))

  pub ending_days_most : ending_days f n ≤ 366 * n
  unfolding ending_days
  ending_days_most = where_most (λ i. agrees ending (i % 100)) (said_days month) 366 (said_most month) n

  pub leap_days_most : said_days month 4 * leap_ending_years ending n ≤ 366 * n
  leap_days_most = omega (arith, ending_days_is, ending_days_most)

-- ---- the months of a year that agree with what was said of the month

no_month_0 : (y : ℕ) → month_length y 0 ≡ 0
unfolding month_length month_lengths
no_month_0 y = refl

module _ (s y : ℕ) where
  months-unsaid : (n : ℕ) → s ≡ 0 → sum_where (agrees s) (month_length y) n ≡ sum (month_length y) n
  months-unsaid n e = sum_same (λ i. cond (agrees s i) (month_length y i) 0) (month_length y) n (λ i _ _. rw (agrees_unsaid s i e))

  months-said : (n : ℕ) → 0 < s → sum_where (agrees s) (month_length y) n ≡ cond (leb (s - 1) n) (month_length y (s - 1)) 0
  months-said n h =
      where-same (agrees s) (month_length y) n (eqb (s - 1)) (λ i _ _. agrees_said s i h)
      ∙ where-one (month_length y) (no_month_0 y) (s - 1) n

  pub said_year : sum_where (agrees s) (month_length y) 12 ≡ said_days s y
  unfolding said_days
  said_year =
      elim (ℕ_discrete s 0) [
        | yes e ↦ rw (eq-eqb s 0 e) (months-unsaid 12 e ∙ year_months y)
        | no e ↦ rw (ne_eqb s 0 e) (months-said 12 (omega (arith, e)) ∙ elim (dec_le (s - 1) 12) [
          | yes l ↦ rw (le-leb (s - 1) 12 l)
          | no l ↦ rw (lt-leb (s - 1) 12 (lt_of_not-le l)) (sym (no_month y (s - 1) (lt_of_not-le l)))
        ])
      ]

  -- through day d of month m
  module _ (m d : ℕ) where
    pub in_year_unsaid : s ≡ 0 → day_of_year y m d ≡ in_year s y m d
    unfolding day_of_year in_year
    in_year_unsaid e = rw (agrees_unsaid s m e) (omega (arith, months-unsaid (m - 1) e))

    module _ (h : 0 < s) where
      pub in_year_early : m < s - 1 → 0 ≡ in_year s y m d
      unfolding in_year
      in_year_early l =
          rw (
            months-said (m - 1) h,
            lt-leb (s - 1) (m - 1) (omega arith),
            agrees_said s m h,
            ne_eqb (s - 1) m (λ (e : s - 1 ≡ m). omega arith),
          )

      pub in_year_late : s - 1 < m → month_length y (s - 1) ≡ in_year s y m d
      unfolding in_year
      in_year_late l =
          rw (
            months-said (m - 1) h,
            le-leb (s - 1) (m - 1) (omega arith),
            agrees_said s m h,
            ne_eqb (s - 1) m (λ (e : s - 1 ≡ m). omega arith),
          )
          (omega arith)

      pub in_year_at : m ≡ s - 1 → d ≡ in_year s y m d
      unfolding in_year
      in_year_at e =
          rw (months-said (m - 1) h, agrees_said s m h, eq-eqb (s - 1) m (sym e))
          (elim (dec_le (s - 1) (m - 1)) [
            | yes l ↦ (let z : s - 1 ≡ 0 = omega arith in rw (le-leb (s - 1) (m - 1) l, z, no_month_0 y) (omega arith))
            | no l ↦ rw (lt-leb (s - 1) (m - 1) (lt_of_not-le l)) (omega arith)
          ])

-- the cases of each count, for the functions that tell them apart
pub ruleset endings = (ending_unsaid, ending_none, ending_some)

pub ruleset leap_endings = (leap_unsaid, leap_none, leap_centuries, leap_all)

pub ruleset days_in_year = (in_year_unsaid, in_year_early, in_year_at, in_year_late)
