-- Where year, month and day were said, no other day than theirs can agree.
-- Assumes nothing.
use Prim.Native.Nat.{ℕ, ◌+◌, ◌-◌, ◌≤◌, ◌<◌}
use mathlib.Core.Bool.{Bool, true, false, not, ◌&&◌, false≢true, and-eq-true_iff}
use mathlib.Core.Path.{◌≡◌, refl, sym, ap, ◌∙◌}
use native.Mathlib.Omega.{arith}
use borrow.Author.Tests.{eq-eqb}
use lib.Dec.{eqb}
use Rattle.calendar.specs.Calendar.{date, date_fault, day_number, days, date_of}
use Rattle.kinds.specs.Kinds as kinds
use Rattle.agreement.specs.Agreement.{said, date_agrees, day_agrees}
use Rattle.agreement.specs.Search.{first_two}
use Rattle.agreement.specs.Verdicts.{days_found}
use Rattle.agreement.specs.declared.Facts.{Facts}
use Rattle.agreement.specs.declared.Found.{Found}
use Rattle.agreement.specs.declared.Found.TheVariants.{Nothing, One}
use Rattle.judge.specs.Private.{date_said}
use Rattle.calendar.proofs.Dates.{Valid, no_fault_valid, valid_no_fault, number_within, date_of_number, number_of_date}
use Rattle.agreement.proofs.Tells.{Tells, none, single, tells, tells_same}
use Rattle.judge.proofs.Agreeing.{agreeing}
use Rattle.judge.proofs.SpanLaws.{is_said}

-- year, month and day were said
pub record Whole (f : Facts) : Type 0 where
  pub some_year : said f kinds.year ≡ 0 → ⊥
  pub some_month : said f kinds.month ≡ 0 → ⊥
  pub some_day : said f kinds.day ≡ 0 → ⊥

some : (s : ℕ) → not (eqb s 0) ≡ true → s ≡ 0 → ⊥
some s e z = false≢true (sym (ap not (eq-eqb s 0 z)) ∙ e)

pub whole : (f : Facts) → date_said f ≡ true → Whole f
unfolding date_said
whole f e =
    let y = not (eqb (said f kinds.year) 0) in
    let m = not (eqb (said f kinds.month) 0) in
    let d = not (eqb (said f kinds.day) 0) in
    let a = (and-eq-true_iff y (m && d)).0 e in
    let b = (and-eq-true_iff m d).0 a.1 in
    record { some_year = some _ a.0; some_month = some _ b.0; some_day = some _ b.1 }

module _ (f : Facts) (w : Whole f) where
  abbrev y : ℕ
  y = said f kinds.year - 1

  abbrev m : ℕ
  m = said f kinds.month - 1

  abbrev d : ℕ
  d = said f kinds.day - 1

  -- a day that agrees has this date
  theirs : (k : ℕ) → 1 ≤ k → k < 1 + days → day_agrees f k ≡ true → Valid y m d × (k ≡ day_number y m d)
  theirs k l h e =
      let t = date_of k in
      let p = number_of_date k l (omega arith) in
      let a = agreeing f k l (omega arith) e in
      let u : t.year ≡ y = sym (is_said _ _ a.year w.some_year) in
      let v : t.month ≡ m = sym (is_said _ _ a.month w.some_month) in
      let x : t.day ≡ d = sym (is_said _ _ a.day w.some_day) in
      (rw (u, v, x) at p.valid, rw (u, v, x) at (sym p.number))

  found : (h : Found) → Tells (day_agrees f) 1 (1 + days) h → h ≡ days_found f
  unfolding days_found
  found h t = tells_same (day_agrees f) 1 h (first_two (day_agrees f) 1 days) t (tells (day_agrees f) 1 days)

  fails : (b : Bool) → (b ≡ true → ⊥) → b ≡ false
  fails true g = absurd (g refl)
  fails false g = refl

  pub no_date : (date_fault y m d ≡ 0 → ⊥) → Nothing ≡ days_found f
  no_date n = found Nothing (none (λ k l h. fails (day_agrees f k) (λ e. n (valid_no_fault y m d (theirs k l h e).0))))

  module _ (v : date_fault y m d ≡ 0) where
    valid : Valid y m d
    valid = no_fault_valid y m d v

    its : day_agrees f (day_number y m d) ≡ date_agrees f (date y m d)
    unfolding day_agrees
    its = ap (date_agrees f) (date_of_number y m d valid)

    pub date_agrees_lem : date_agrees f (date y m d) ≡ true → One (day_number y m d) ≡ days_found f
    date_agrees_lem e =
        let n = number_within y m d valid in
        found (One (day_number y m d)) (single n.0 (omega (arith, n.1)) (its ∙ e) (λ k l h q. (theirs k l h q).1))

    pub date_differs : date_agrees f (date y m d) ≡ false → Nothing ≡ days_found f
    date_differs e = found Nothing (none (λ k l h. fails (day_agrees f k) (λ q. clash-at k l h q)))
      where
        clash-at : (k : ℕ) → 1 ≤ k → k < 1 + days → day_agrees f k ≡ true → ⊥
        clash-at k l h q = false≢true (sym (its ∙ e) ∙ sym (ap (day_agrees f) (theirs k l h q).1) ∙ q)
