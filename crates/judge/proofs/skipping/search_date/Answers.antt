-- `judge::skipping::search_date` meets its contract. Assumes nothing.
use Prim.Native.Nat.{ℕ, ◌-◌}
use mathlib.Core.Bool.{Bool, true}
use mathlib.Core.Path.{◌≡◌, sym, ap, ◌∙◌}
use native.Mathlib.Omega.{arith}
use borrow.Author.Tests.{eqb-true, eqb-false}
use lib.Dec.{eqb}
use Rattle.calendar.specs.Calendar.{date, date_fault, day_number}
use Rattle.calendar.specs.Dates.{from_fields}
use Rattle.calendar.specs.declared.Date.{Date}
use Rattle.kinds.specs.Kinds as kinds
use Rattle.kinds.specs.Kinds.{day_kinds}
use Rattle.agreement.specs.Agreement.{said, date_agrees}
use Rattle.agreement.specs.declared.Facts.{Facts}
use Rattle.laws.specs.Lists.{range}
use Rattle.calendar.proofs.Dates.{fields_bad, fields_valid}
use Rattle.judge.proofs.Complete.{whole, no_date, date_agrees_lem, date_differs}
use Rattle.judge.proofs.skipping.search_date.Goals as goal
use Rattle.std.specs.Prelude.{Ok}

module _ (f : Facts) where
  abbrev y : ℕ
  y = said f kinds.year - 1

  abbrev m : ℕ
  m = said f kinds.month - 1

  abbrev d : ℕ
  d = said f kinds.day - 1

  -- what is known of the date that was said, where it is one
  module _ (x : Date) (e : from_fields y m d ≡ Ok x) where
    is-valid : (eqb (date_fault y m d) 0 ≡ true) × (date y m d ≡ x)
    is-valid = fields_valid y m d x e

    no_fault : date_fault y m d ≡ 0
    no_fault = eqb-true (date_fault y m d) 0 is-valid.0

    agrees-there : {b : Bool} → b ≡ date_agrees f x → b ≡ date_agrees f (date y m d)
    agrees-there e = e ∙ ap (date_agrees f) (sym is-valid.1)

    number-there : day_number x.year x.month x.day ≡ day_number y m d
    number-there = ap (λ (x : Date). day_number x.year x.month x.day) (sym is-valid.1)

fields-alike : {a a' b b' c c' : ℕ} → a ≡ a' → b ≡ b' → c ≡ c' → from_fields (a - 1) (b - 1) (c - 1)
    ≡ from_fields (a' - 1) (b' - 1) (c' - 1)
fields-alike e g h = rw (e, g, h)

pub overflow_sub-year : goal.overflow_sub-year
overflow_sub-year c = omega (arith, (whole _ c.requires).some_year, c.said-year.ensures)

pub overflow_sub-month : goal.overflow_sub-month
overflow_sub-month c = omega (arith, (whole _ c.requires).some_month, c.said-month.ensures)

pub overflow_sub-day : goal.overflow_sub-day
overflow_sub-day c = omega (arith, (whole _ c.requires).some_day, c.said-day.ensures)

pub returns-in_default : goal.returns-in_default
returns-in_default c =
    let f = c.args.facts in
    let e = c.from_fields.ensures ∙ fields-alike c.said-year.ensures c.said-month.ensures c.said-day.ensures in
    no_date f (whole f c.requires) (eqb-false _ 0 (fields_bad _ _ _ _ (sym e ∙ c.in_default.is)).0)

pub returns-then-date_kinds_agree : goal.returns-then-date_kinds_agree
unfolding date_agrees day_kinds range
returns-then-date_kinds_agree c =
    let f = c.args.facts in
    let x = c.in-Ok.date in
    let e : from_fields (y f) (m f) (d f) ≡ Ok x =
    sym (c.from_fields.ensures ∙ fields-alike c.said-year.ensures c.said-month.ensures c.said-day.ensures)
    ∙ c.in-Ok.is
    in
    rw (c.day_number.ensures ∙ number-there f x e)
    (date_agrees_lem f (whole f c.requires) (no_fault f x e) (sym (agrees-there f x e c.date_kinds_agree.ensures)
    ∙ c.if-date_kinds_agree.true))

pub returns : goal.returns
unfolding date_agrees day_kinds range
returns c =
    let f = c.args.facts in
    let x = c.in-Ok.date in
    let e : from_fields (y f) (m f) (d f) ≡ Ok x =
    sym (c.from_fields.ensures ∙ fields-alike c.said-year.ensures c.said-month.ensures c.said-day.ensures)
    ∙ c.in-Ok.is
    in
    date_differs f (whole f c.requires) (no_fault f x e) (sym (agrees-there f x e c.date_kinds_agree.ensures) ∙ c.if-date_kinds_agree.false)
