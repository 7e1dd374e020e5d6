-- What an answer made of two verdicts tells of them: each number and place stands for one verdict on the day, or on the hour.
-- Assumes nothing.
use Prim.Native.Nat.{ℕ}
use mathlib.Core.Logic.{◌↔◌}
use mathlib.Core.Path.{◌≡◌, refl, sym, ◌∙◌}
use native.Mathlib.Omega.{arith}
use Rattle.laws.proofs.Cases.{clash}
use Rattle.kinds.specs.Kinds as kinds
use Rattle.calendar.specs.Calendar.{date_of}
use Rattle.calendar.specs.declared.Date.{Date}
use Rattle.agreement.specs.Agreement.{said}
use Rattle.agreement.specs.declared.Verdict.{Verdict}
use Rattle.agreement.specs.declared.Verdict.TheVariants.{Unsaid as NotSaid, Impossible, Open, Agreed}
use Rattle.values.specs.Offsets.{offset_of}
use Rattle.strptime.specs.Answers.{showing, refused, finished, said_of, done, with_hour, with_day}
use Rattle.strptime.specs.declared.Reading.{Reading}
use Rattle.matching.specs.declared.State.{State}
use Rattle.std.specs.Prelude.{None, Option, Some, ℕ, ℤ}
use Rattle.strptime.specs.declared.Shown.TheVariants.{Days, Hours}
use Rattle.strptime.specs.declared.Shown.{Shown}

-- the day that a verdict leaves, where it does not refuse
abbrev pub Leaves : Verdict → Option Date → Type 0
Leaves NotSaid x = x ≡ None
Leaves Impossible x = ⊥
Leaves (Open a b) x = ⊥
Leaves (Agreed k) x = x ≡ Some (date_of k)

-- the hour likewise
abbrev pub LeavesHour : Verdict → Option ℕ → Type 0
LeavesHour NotSaid x = x ≡ None
LeavesHour Impossible x = ⊥
LeavesHour (Open a b) x = ⊥
LeavesHour (Agreed h) x = x ≡ Some h

-- a number, a place, and what is shown
abbrev pub Refuses : ℕ → ℕ → Reading → Type 0
Refuses n p r = (r.number ≡ n) × (r.place ≡ p)

abbrev pub Shows : ℕ → Option Shown → Reading → Type 0
Shows p x r = (r.number ≡ 10) × (r.place ≡ p) × (r.shown ≡ x)

abbrev pub Finishes : Option Date → Option ℕ → Option ℕ → Option ℕ → Option ℤ → Reading → Type 0
Finishes x h m c o r =
    (r.number ≡ 0) × (r.day ≡ x) × (r.hour ≡ h) × (r.minute ≡ m) × (r.second ≡ c) × (r.offset ≡ o)

module _ (t : State) where
  abbrev pub minute : Option ℕ
  minute = said_of (said t.facts kinds.minute)

  abbrev pub second : Option ℕ
  second = said_of (said t.facts kinds.second)

  abbrev pub offset : Option ℤ
  offset = offset_of (said t.facts kinds.zone_offset)

  -- ---- the hour

  hour-not-day : (d : Option Date) (w : Verdict) → ((with_hour t d w).place ≡ 1) → ((with_hour t d w).number ≡ 0 → ⊥) → ⊥
  unfolding with_hour done finished refused showing
  hour-not-day d NotSaid e n = n refl
  hour-not-day d Impossible e n = omega arith
  hour-not-day d (Open a b) e n = omega arith
  hour-not-day d (Agreed h) e n = n refl

  hour-none : (d : Option Date) (w : Verdict) → Refuses 9 2 (with_hour t d w) ↔ (w ≡ Impossible)
  unfolding with_hour done finished refused showing
  hour-none d NotSaid = (λ e. absurd (omega (arith, e.0)), λ e. clash (cc))
  hour-none d Impossible = (λ e. refl, λ e. (refl, refl))
  hour-none d (Open a b) = (λ e. absurd (omega (arith, e.0)), λ e. clash (cc))
  hour-none d (Agreed h) = (λ e. absurd (omega (arith, e.0)), λ e. clash (cc))

  hour-two : (d : Option Date) (w : Verdict) (a b : ℕ) → Shows 2 (Some (Hours a b)) (with_hour t d w) ↔ (w ≡ Open a b)
  unfolding with_hour done finished refused showing
  hour-two d NotSaid a b = (λ e. absurd (omega (arith, e.0)), λ e. clash (cc))
  hour-two d Impossible a b = (λ e. absurd (omega (arith, e.0)), λ e. clash (cc))
  hour-two d (Open x y) a b = (
    λ e. let q = e.2 in cc,
    λ e. let p : x ≡ a = cc in let q : y ≡ b = cc in (refl, refl, rw (p, q)),
  )
  hour-two d (Agreed h) a b = (λ e. absurd (omega (arith, e.0)), λ e. clash (cc))

  hour-done : (d : Option Date) (w : Verdict) (x : Option Date) (h m c : Option ℕ) (o : Option ℤ)
      → Finishes x h m c o (with_hour t d w) ↔ ((d ≡ x) × LeavesHour w h × (minute ≡ m) × (second ≡ c) × (offset ≡ o))
  unfolding with_hour done finished refused showing
  hour-done d NotSaid x h m c o = (λ e. (e.1, sym e.2, e.3, e.4, e.5), λ e. (refl, e.0, sym e.1, e.2, e.3, e.4))
  hour-done d Impossible x h m c o = (λ e. absurd (omega (arith, e.0)), λ e. absurd e.1)
  hour-done d (Open a b) x h m c o = (λ e. absurd (omega (arith, e.0)), λ e. absurd e.1)
  hour-done d (Agreed k) x h m c o = (λ e. (e.1, sym e.2, e.3, e.4, e.5), λ e. (refl, e.0, sym e.1, e.2, e.3, e.4))

  hour-place : (d : Option Date) (w : Verdict) → (with_hour t d w).number ≡ 0 → (with_hour t d w).place ≡ t.at
  unfolding with_hour done finished refused showing
  hour-place d NotSaid e = refl
  hour-place d Impossible e = absurd (omega arith)
  hour-place d (Open a b) e = absurd (omega arith)
  hour-place d (Agreed h) e = refl

  -- ---- the day first

  pub day_none : (v w : Verdict) → Refuses 9 1 (with_day t v w) ↔ (v ≡ Impossible)
  unfolding with_day refused showing
  day_none NotSaid w = (λ e. absurd (hour-not-day None w e.1 (λ z. omega (arith, sym z ∙ e.0))), λ e. clash (cc))
  day_none Impossible w = (λ e. refl, λ e. (refl, refl))
  day_none (Open a b) w = (λ e. absurd (omega (arith, e.0)), λ e. clash (cc))
  day_none (Agreed k) w = (λ e. absurd (hour-not-day (Some (date_of k)) w e.1 (λ z. omega (arith, sym z ∙ e.0))), λ e. clash (cc))

  pub day_two : (v w : Verdict) (x y : Date) → Shows 1 (Some (Days x y)) (with_day t v w)
      ↔ ((a : ℕ) × (b : ℕ) × (v ≡ Open a b) × (date_of a ≡ x) × (date_of b ≡ y))
  unfolding with_day refused showing
  day_two NotSaid w x y = (λ e. absurd (hour-not-day None w e.1 (λ z. omega (arith, sym z ∙ e.0))), λ e. clash (cc e.2))
  day_two Impossible w x y = (λ e. absurd (omega (arith, e.0)), λ e. clash (cc e.2))
  day_two (Open a b) w x y = (
    λ e. let q = e.2 in (a, b, refl, (cc), (cc)),
    λ e. let p = e.2 in let q : a ≡ e.0 = cc in let r : b ≡ e.1 = cc in (refl, refl, rw (q, r, e.3, e.4)),
  )
  day_two (Agreed k) w x y =
      (λ e. absurd (hour-not-day (Some (date_of k)) w e.1 (λ z. omega (arith, sym z ∙ e.0))), λ e. clash (cc e.2))

  -- then the hour, where the day is not refused
  pub then_none : (v w : Verdict) → Refuses 9 2 (with_day t v w) ↔ (((x : Option Date) × Leaves v x) × (w ≡ Impossible))
  unfolding with_day refused showing
  then_none NotSaid w = (λ e. ((None, refl), (hour-none None w).0 e), λ e. (hour-none None w).1 e.1)
  then_none Impossible w = (λ e. absurd (omega (arith, e.1)), λ e. absurd e.0.1)
  then_none (Open a b) w = (λ e. absurd (omega (arith, e.0)), λ e. absurd e.0.1)
  then_none (Agreed k) w =
      let g = hour-none (Some (date_of k)) w in
      (λ e. ((Some (date_of k), refl), g.0 e), λ e. g.1 e.1)

  pub then_two : (v w : Verdict) (a b : ℕ)
      → Shows 2 (Some (Hours a b)) (with_day t v w) ↔ (((x : Option Date) × Leaves v x) × (w ≡ Open a b))
  unfolding with_day refused showing
  then_two NotSaid w a b = (λ e. ((None, refl), (hour-two None w a b).0 e), λ e. (hour-two None w a b).1 e.1)
  then_two Impossible w a b = (λ e. absurd (omega (arith, e.0)), λ e. absurd e.0.1)
  then_two (Open x y) w a b = (λ e. absurd (omega (arith, e.1)), λ e. absurd e.0.1)
  then_two (Agreed k) w a b =
      let g = hour-two (Some (date_of k)) w a b in
      (λ e. ((Some (date_of k), refl), g.0 e), λ e. g.1 e.1)

  pub then_done : (v w : Verdict) (x : Option Date) (h m c : Option ℕ) (o : Option ℤ)
      → Finishes x h m c o (with_day t v w) ↔ (Leaves v x × LeavesHour w h × (minute ≡ m) × (second ≡ c) × (offset ≡ o))
  unfolding with_day refused showing
  then_done NotSaid w x h m c o =
      let g = hour-done None w x h m c o in
      (λ e. let r = g.0 e in (sym r.0, r.1, r.2, r.3, r.4), λ e. g.1 (sym e.0, e.1, e.2, e.3, e.4))
  then_done Impossible w x h m c o = (λ e. absurd (omega (arith, e.0)), λ e. absurd e.0)
  then_done (Open a b) w x h m c o = (λ e. absurd (omega (arith, e.0)), λ e. absurd e.0)
  then_done (Agreed k) w x h m c o =
      let g = hour-done (Some (date_of k)) w x h m c o in
      (λ e. let r = g.0 e in (sym r.0, r.1, r.2, r.3, r.4), λ e. g.1 (sym e.0, e.1, e.2, e.3, e.4))

  -- a finished reading's place
  pub done_place : (v w : Verdict) → (with_day t v w).number ≡ 0 → (with_day t v w).place ≡ t.at
  unfolding with_day refused showing
  done_place NotSaid w = hour-place None w
  done_place Impossible w = λ e. absurd (omega arith)
  done_place (Open a b) w = λ e. absurd (omega arith)
  done_place (Agreed k) w = hour-place (Some (date_of k)) w
