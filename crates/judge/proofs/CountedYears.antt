-- The years that agree with what was said of the year and of the century, as a span; their days, by those of all years that end alike.
-- Assumes nothing.
use Prim.Native.Nat.{ℕ, ◌+◌, ◌-◌, ◌/◌, ◌%◌, ◌≤◌, ◌<◌, min}
use mathlib.Core.Bool.{Bool, true, false, cond, ◌&&◌, and_assoc, and-eq-true_iff}
use mathlib.Core.Path.{◌≡◌, refl, sym, ap, ◌∙◌}
use native.Mathlib.Omega.{arith}
use borrow.Author.Tests.{leb-true}
use lib.Dec.{leb}
use Rattle.calendar.specs.Calendar.{within, last_year}
use Rattle.calendar.proofs.Sum.{sum_same}
use Rattle.agreement.specs.Agreement.{said, agrees}
use Rattle.agreement.specs.declared.Facts.{Facts}
use Rattle.judge.specs.Private.{sum_where, said_days, ending_days, said_years, year_agrees, whole_years}
use Rattle.judge.specs.declared.spans.Span.{Span}
use Rattle.kinds.specs.Kinds as kinds
use Rattle.judge.proofs.Counts.{where_within, within_both}
use Rattle.judge.proofs.SpanLaws.{said_years_in, said_years_of}

nested : (t u : Bool) (x : ℕ) → cond (t && u) x 0 ≡ cond t (cond u x 0) 0
nested true u x = refl
nested false u x = refl

-- two tests that pass alike
alike : (t u : Bool) → (t ≡ true → u ≡ true) → (u ≡ true → t ≡ true) → t ≡ u
alike true u f g = sym (f refl)
alike false true f g = g refl
alike false false f g = refl

module _ (f : Facts) where
  abbrev year : ℕ
  year = said f kinds.year

  abbrev century : ℕ
  century = said f kinds.century

  abbrev years : Span
  years = said_years f last_year

  -- a year lies in the span
  abbrev lies : ℕ → Bool
  lies i = within years.first years.last i

  in_span : (i : ℕ) → 0 < i → i ≤ last_year → lies i ≡ (agrees year i && agrees century (i / 100))
  in_span i l m =
      alike (lies i) (agrees year i && agrees century (i / 100))
      (λ e.
      let t = (and-eq-true_iff (leb years.first i) (leb i years.last)).0 e in
      (and-eq-true_iff (agrees year i) (agrees century (i / 100))).1
      (said_years_of f last_year i m (record { from = leb-true years.first i t.0; to = leb-true i years.last t.1 })))
      (λ e.
      let t = (and-eq-true_iff (agrees year i) (agrees century (i / 100))).0 e in
      let n = said_years_in f last_year i l m m t.0 t.1 in
      within_both years.first years.last i n.from n.to)

  abbrev ends : ℕ → Bool
  ends i = agrees (said f kinds.year_in_century) (i % 100)

  by_span : (i : ℕ) → 0 < i → i ≤ last_year → year_agrees f i ≡ (lies i && ends i)
  unfolding year_agrees
  by_span i l m =
      sym (and_assoc (agrees year i) (agrees century (i / 100)) (ends i)) ∙ ap (λ (t : Bool). t && ends i) (sym (in_span i l m))

  -- the days of the years 1 to n: those of the span through n, less those before it
  module _ (n : ℕ) (h : n ≤ last_year) where
    abbrev first : ℕ
    first = years.first

    abbrev end : ℕ
    end = min n years.last

    abbrev days-of : ℕ → ℕ
    days-of i = said_days (said f kinds.month) i

    whole_is : whole_years f n + ending_days f (min end (first - 1)) ≡ ending_days f end
    unfolding whole_years ending_days
    whole_is =
        let e : whole_years f n ≡ sum_where lies (λ i. cond (ends i) (days-of i) 0) n
        = sum_same _ _ n (λ i l m. rw (by_span i l (omega arith)) (nested (lies i) (ends i) (days-of i))) in
        omega (arith, e, where_within first years.last (λ i. cond (ends i) (days-of i) 0) n)

    pub whole_none : end < first → whole_years f n ≡ 0
    whole_none l = let e : min end (first - 1) ≡ end = omega arith in omega (arith, rw e at whole_is)

    pub whole_some : first ≤ end → whole_years f n + ending_days f (first - 1) ≡ ending_days f end
    whole_some l = let e : min end (first - 1) ≡ first - 1 = omega arith in rw e at whole_is
