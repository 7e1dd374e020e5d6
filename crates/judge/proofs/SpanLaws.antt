-- What facts leave of years, months and days holds every day that agrees.
-- Assumes nothing.
use Prim.Native.Nat.{ℕ, ◌+◌, ◌-◌, ◌*◌, ◌/◌, ◌%◌, ◌≤◌, ◌<◌}
use mathlib.Core.Bool.{true}
use mathlib.Core.Path.{◌≡◌, refl}
use native.Mathlib.Decide.{dec_le, ℕ_discrete}
use native.Mathlib.Nat.{div-add-mod', lt_of_not-le}
use native.Mathlib.Omega.{arith}
use borrow.Author.Tests.{eq-eqb, ne_eqb, eqb-true, le-leb}
use lib.Dec.{eqb}
use Rattle.kinds.specs.Kinds as kinds
use Rattle.agreement.specs.Agreement.{said, agrees}
use Rattle.agreement.specs.declared.Facts.{Facts}
use Rattle.judge.specs.Private.{narrowed, said_years, year_span, year_step, first_year, iso_back, iso_can, month_span, year_days}
use Rattle.judge.specs.Private.{month_day_span}
use Rattle.judge.specs.declared.spans.Span.{Span}
use Rattle.laws.proofs.Cases.{picked}

-- a number lies in a span
pub record In (x : Span) (k : ℕ) : Type 0 where
  pub from : x.first ≤ k
  pub to : k ≤ x.last

-- what was said is the value that agrees
pub is_said : (s v : ℕ) → agrees s v ≡ true → (s ≡ 0 → ⊥) → s - 1 ≡ v
unfolding agrees
is_said s v e n = eqb-true (s - 1) v (rw (ne_eqb s 0 n) at e)

says : (s v : ℕ) → ((s ≡ 0 → ⊥) → s - 1 ≡ v) → agrees s v ≡ true
unfolding agrees
says s v h =
    elim (ℕ_discrete s 0) [
      | yes e ↦ rw (eq-eqb s 0 e)
      | no n ↦ rw (ne_eqb s 0 n) (eq-eqb (s - 1) v (h n))
    ]

-- ---- one fact
module _ (x : Span) (s a b : ℕ) where
  narrowed-in : (k : ℕ) → In x k → ((s ≡ 0 → ⊥) → (a ≤ k) × (k ≤ b)) → In (narrowed x s a b) k
  unfolding narrowed
  narrowed-in k i h = go (ℕ_discrete s 0)
    where
      go : Dec (s ≡ 0) → In (narrowed x s a b) k
      go (yes e) = rw (eq-eqb s 0 e) i
      go (no n) = rw (ne_eqb s 0 n) (record { from = omega (arith, i.from, h n); to = omega (arith, i.to, h n) })

  narrowed_of : (k : ℕ) → In (narrowed x s a b) k → In x k × ((s ≡ 0 → ⊥) → (a ≤ k) × (k ≤ b))
  unfolding narrowed
  narrowed_of k =
      elim (ℕ_discrete s 0) [
        | yes e ↦ rw (eq-eqb s 0 e) (λ i. (i, λ n. absurd (n e)))
        | no n ↦
            rw (ne_eqb s 0 n)
            (λ i.
            (record { from = omega (arith, i.from); to = omega (arith, i.to) }, λ _. (omega (arith, i.from), omega (arith, i.to))))
      ]

  -- it begins no earlier, and ends no later
  narrowed-from : (n : ℕ) → n ≤ x.first → n ≤ (narrowed x s a b).first
  unfolding narrowed
  narrowed-from n h = picked (λ (y : Span). n ≤ y.first) (eqb s 0) h (omega arith)

  narrowed-to : (n : ℕ) → x.last ≤ n → (narrowed x s a b).last ≤ n
  unfolding narrowed
  narrowed-to n h = picked (λ (y : Span). y.last ≤ n) (eqb s 0) h (omega arith)

  narrowed-most : (n : ℕ) → x.first ≤ n → a ≤ n → (narrowed x s a b).first ≤ n
  unfolding narrowed
  narrowed-most n h l = picked (λ (y : Span). y.first ≤ n) (eqb s 0) h (omega arith)

-- from a year, q in its century, to the first from there on that is r in its own, and on to another that is
hundreds : (w : ℕ) → w * 100 % 100 ≡ 0
hundreds w = omega arith

turn_up : (q r : ℕ) → r < 100 → q ≤ r → (r + 100 - q) % 100 ≡ r - q
turn_up q r h l = omega arith

turn_over : (q r : ℕ) → q < 100 → r < q → (r + 100 - q) % 100 ≡ r + 100 - q
turn_over q r h l = omega arith

ends_in : (b q a r : ℕ) → q < 100 → r < 100 → b * 100 + q ≤ a * 100 + r
    → let x = b * 100 + q + (r + 100 - q) % 100 in (x ≤ a * 100 + r) × ((a * 100 + r - x) % 100 ≡ 0)
ends_in b q a r s t h =
    elim (dec_le q r) [
      | yes l ↦ (let e : a * 100 + r - (b * 100 + q + (r - q)) ≡ (a - b) * 100 = omega arith in
          rw (turn_up q r t l) (omega arith, rw e (hundreds (a - b))))
      | no n ↦ (let l : r < q = lt_of_not-le n in
          let e : a * 100 + r - (b * 100 + q + (r + 100 - q)) ≡ (a - b - 1) * 100 = omega arith in
          rw (turn_over q r s l) (omega arith, rw e (hundreds (a - b - 1))))
    ]

module _ (f : Facts) where
  -- ---- years
  module _ (horizon : ℕ) where
    pub said_years_low : 1 ≤ (said_years f horizon).first
    unfolding said_years
    said_years_low = narrowed-from _ _ _ _ 1 (narrowed-from _ _ _ _ 1 (omega arith))

    -- they are those that agree
    pub said_years_in : (y : ℕ) → 0 < y → y ≤ horizon → y ≤ 9999
        → agrees (said f kinds.year) y ≡ true → agrees (said f kinds.century) (y / 100) ≡ true → In (said_years f horizon) y
    unfolding said_years
    said_years_in y p h m a b =
        narrowed-in _ _ _ _ y
        (narrowed-in _ _ _ _ y (record { from = p; to = h }) (λ n. let q = is_said _ _ a n in (omega arith, omega arith)))
        (λ n. let q = is_said _ _ b n in (omega arith, omega arith))

    pub said_years_of : (y : ℕ) → y ≤ 9999 → In (said_years f horizon) y
        → (agrees (said f kinds.year) y ≡ true) × (agrees (said f kinds.century) (y / 100) ≡ true)
    unfolding said_years
    said_years_of y m i =
        let c = narrowed_of _ _ _ _ y i in
        let b = narrowed_of _ _ _ _ y c.0 in
        (says _ _ (λ n. omega (arith, b.1 n)), says _ _ (λ n. omega (arith, c.1 n)))

    pub years_low : 1 ≤ (year_span f horizon).first
    unfolding year_span
    years_low = narrowed-from _ _ _ _ 1 said_years_low

    pub years_most : (year_span f horizon).first ≤ 20000
    unfolding year_span said_years
    years_most =
        narrowed-most _ _ _ _ 20000
        (narrowed-most _ _ _ _ 20000 (narrowed-most _ _ _ _ 20000 (omega arith) (omega arith)) (omega arith)) (omega arith)

    pub years_high : (year_span f horizon).last ≤ horizon
    unfolding year_span said_years
    years_high = narrowed-to _ _ _ _ horizon (narrowed-to _ _ _ _ horizon (narrowed-to _ _ _ _ horizon (omega arith)))

    pub years_in : (y g : ℕ) → 0 < y → y ≤ horizon → y ≤ 9999
        → agrees (said f kinds.year) y ≡ true → agrees (said f kinds.century) (y / 100) ≡ true
        → agrees (said f kinds.iso_year) g ≡ true → y ≤ g + 1 → g ≤ y + 1 → In (year_span f horizon) y
    unfolding year_span
    years_in y g p h m a b c d e =
        narrowed-in _ _ _ _ y (said_years_in y p h m a b) (λ n. let q = is_said _ _ c n in (omega arith, omega arith))

  -- ---- steps from year to year
  by-step : (P : ℕ → ℕ → Type 0) (first : ℕ)
      → (said f kinds.year_in_century ≡ 0 → P 1 first)
      → ((said f kinds.year_in_century ≡ 0 → ⊥) → P 100 (first + ((said f kinds.year_in_century - 1) % 100 + 100 - first % 100) % 100))
      → P (year_step f) (first_year f first)
  unfolding year_step first_year
  by-step P first h l =
      elim (ℕ_discrete (said f kinds.year_in_century) 0) [
        | yes e ↦ rw (eq-eqb (said f kinds.year_in_century) 0 e) (h e)
        | no n ↦ rw (ne_eqb (said f kinds.year_in_century) 0 n) (l n)
      ]

  pub steps : (first : ℕ) → ((1 ≤ year_step f) × (year_step f ≤ 100)) × ((first ≤ first_year f first) × (first_year f first ≤ first + 99))
  steps first =
      by-step (λ s y. ((1 ≤ s) × (s ≤ 100)) × ((first ≤ y) × (y ≤ first + 99))) first
      (λ e. ((omega arith, omega arith), (omega arith, omega arith)))
      (λ n. ((omega arith, omega arith), (omega arith, omega arith)))

  pub no_steps : 0 % year_step f ≡ 0
  no_steps = by-step (λ s _. 0 % s ≡ 0) 0 (λ e. refl) (λ n. refl)

  -- a year that agrees is reached: no sooner than the first, and after whole steps
  pub stepped_on : (first y : ℕ) → first ≤ y → agrees (said f kinds.year_in_century) (y % 100) ≡ true
      → (first_year f first ≤ y) × ((y - first_year f first) % year_step f ≡ 0)
  stepped_on first y h a =
      by-step (λ s x. (x ≤ y) × ((y - x) % s ≡ 0)) first
      (λ e. (h, omega arith))
      (λ n.
      let q = is_said _ _ a n in
      let u : first / 100 * 100 + first % 100 ≡ first = div-add-mod' first 100 in
      let v : y / 100 * 100 + y % 100 ≡ y = div-add-mod' y 100 in
      let w : y % 100 % 100 ≡ y % 100 = omega arith in
      rw (q, w) (rw (u, v) at (ends_in (first / 100) (first % 100) (y / 100) (y % 100) (omega arith) (omega arith) (omega arith))))

  -- and the next one is a step away
  pub next_step : (x y z : ℕ) → x ≤ y → (y - x) % year_step f ≡ 0
      → ((y + year_step f - x) % year_step f ≡ 0) × (y < z → (z - x) % year_step f ≡ 0 → y + year_step f ≤ z)
  next_step x y z h e =
      by-step (λ s _. (y - x) % s ≡ 0 → ((y + s - x) % s ≡ 0) × (y < z → (z - x) % s ≡ 0 → y + s ≤ z)) 0
      (λ n q. (omega arith, λ l r. omega arith))
      (λ n q. (omega arith, λ l r. omega arith))
      e

  -- ---- months
  module _ (y : ℕ) where
    pub months_low : 1 ≤ (month_span f y).first
    unfolding month_span
    months_low = picked (λ (x : Span). 1 ≤ x.first) (iso_can f y) (narrowed-from _ _ _ _ 1 (omega arith)) (omega arith)

    pub months_most : (month_span f y).first ≤ 13
    unfolding month_span
    months_most = picked (λ (x : Span). x.first ≤ 13) (iso_can f y) (narrowed-most _ _ _ _ 13 (omega arith) (omega arith)) (omega arith)

    pub months_high : (month_span f y).last ≤ 12
    unfolding month_span
    months_high = picked (λ (x : Span). x.last ≤ 12) (iso_can f y) (narrowed-to _ _ _ _ 12 (omega arith)) (omega arith)

    can : (g : ℕ) → agrees (said f kinds.iso_year_in_century) (g % 100) ≡ true → y ≤ g + 1 → g ≤ y + 1 → iso_can f y ≡ true
    unfolding iso_can
    can g a d e =
        elim (ℕ_discrete (said f kinds.iso_year_in_century) 0) [
          | yes z ↦ rw (eq-eqb (said f kinds.iso_year_in_century) 0 z)
          | no n ↦ (let q = is_said _ _ a n in
              rw (ne_eqb (said f kinds.iso_year_in_century) 0 n) (le-leb (iso_back (said f kinds.iso_year_in_century) y) 2 (omega arith)))
        ]

    pub months_in : (m g : ℕ) → 0 < m → m ≤ 12 → agrees (said f kinds.month) m ≡ true
        → agrees (said f kinds.iso_year_in_century) (g % 100) ≡ true → y ≤ g + 1 → g ≤ y + 1 → In (month_span f y) m
    unfolding month_span
    months_in m g p h a b d e =
        rw (can g b d e)
        (narrowed-in _ _ _ _ m (record { from = p; to = h }) (λ n. let q = is_said _ _ a n in (omega arith, omega arith)))

  -- ---- days of a year
  module _ (before length : ℕ) where
    pub days_in : (k : ℕ) → length ≤ 366 → before < k → k ≤ before + length
        → agrees (said f kinds.day_of_year) (k - before) ≡ true
        → agrees (said f kinds.sunday_week) (k / 7 - before / 7) ≡ true
        → agrees (said f kinds.monday_week) ((k + 6) / 7 - (before + 6) / 7) ≡ true
        → In (year_days f before length) k
    unfolding year_days
    days_in k s p h a b c =
        narrowed-in _ _ _ _ k
        (narrowed-in _ _ _ _ k
        (narrowed-in _ _ _ _ k (record { from = omega arith; to = h }) (λ n. let q = is_said _ _ a n in (omega arith, omega arith)))
        (λ n. let q = is_said _ _ b n in (omega arith, omega arith)))
        (λ n. let q = is_said _ _ c n in (omega arith, omega arith))

  -- ---- days of a month
  module _ (x : Span) (start length : ℕ) where
    pub span_in : (k d : ℕ) → In x k → k ≡ start + d → 0 < d → d ≤ length → length ≤ 31 → agrees (said f kinds.day) d ≡ true
        → In (month_day_span f x start length) k
    unfolding month_day_span
    span_in k d i e p h s a =
        narrowed-in _ _ _ _ k
        (record { from = omega (arith, i.from); to = omega (arith, i.to) })
        (λ n. let q = is_said _ _ a n in (omega arith, omega arith))

    pub span_low : start + 1 ≤ (month_day_span f x start length).first
    unfolding month_day_span
    span_low = narrowed-from _ _ _ _ _ (omega arith)

    pub span_high : (month_day_span f x start length).last ≤ start + length
    unfolding month_day_span
    span_high = narrowed-to _ _ _ _ _ (omega arith)
