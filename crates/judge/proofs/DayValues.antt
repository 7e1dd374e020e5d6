-- The values of a day that the search carries along, by its day number and the days before its year; and a chain of tests of kinds.
-- Assumes nothing.
use Prim.Native.Nat.{ℕ, zero, suc, ◌+◌, ◌-◌, ◌/◌, ◌%◌}
use mathlib.Core.Bool.{Bool, true, false, ◌&&◌, and_assoc}
use mathlib.Core.List.{List}
use mathlib.Core.Path.{◌≡◌, sym, ◌∙◌}
use native.Mathlib.Omega.{arith}
use borrow.Author.Tests.{eqb-true}
use lib.Dec.{eqb, lit<, lit≤}
use Rattle.calendar.specs.Calendar.{days_before, day_of_year, day_number, sunday_week, monday_week}
use Rattle.calendar.specs.declared.Date.{Date}
use Rattle.calendar.proofs.Weeks.{count_is}
use Rattle.values.specs.Values.{day_number_of, date_value, date_values}
use Rattle.agreement.specs.Agreement.{said, none_said, agrees, all_agree}
use Rattle.agreement.specs.declared.Facts.{Facts}
use Rattle.laws.specs.Lists.{every}
use Rattle.laws.proofs.Lists.{every_member}
use Rattle.kinds.specs.Kinds as kinds
use Rattle.kinds.specs.Kinds.{day_kinds}
use Rattle.judge.specs.Private.{iso_kinds}
use Rattle.agreement.proofs.Every.{member_every}

module _ (t : Date) {number before : ℕ} (e : number ≡ day_number_of t) (g : before ≡ days_before t.year) where
  pub before_number : before + date_value kinds.day_of_year t ≡ number
  unfolding date_value date_values day_number
  before_number = omega (arith, e, g)

  pub day_of_year_is : number - before ≡ date_value kinds.day_of_year t
  day_of_year_is = omega (arith, before_number)

  pub weekday_is : (number + 6) % 7 + 1 ≡ date_value kinds.weekday t
  unfolding date_value date_values
  weekday_is = rw e

  pub sunday_week_is : number / 7 - before / 7 ≡ date_value kinds.sunday_week t
  unfolding date_value date_values day_number sunday_week
  sunday_week_is = omega (arith, e, g, count_is 7 t.year (day_of_year t.year t.month t.day) (lit< tt) (lit≤ tt))

  pub monday_week_is : (number + 6) / 7 - (before + 6) / 7 ≡ date_value kinds.monday_week t
  unfolding date_value date_values day_number monday_week
  monday_week_is = omega (arith, e, g, count_is 1 t.year (day_of_year t.year t.month t.day) (lit< tt) (lit≤ tt))

-- the tests of kinds 1 to n + 1, joined from the left
abbrev pub joined : (ℕ → Bool) → ℕ → Bool
joined p zero = p 1
joined p (suc n) = joined p n && p (n + 2)

-- one more is joined, where those before it pass and where they do not
pub joins : {a b v x y : Bool} → a ≡ x → a ≡ true → v ≡ b → b ≡ y → v ≡ (x && y)
joins e t g h = rw (sym e ∙ t) (g ∙ h)

pub stays : {a v x : Bool} (y : Bool) → a ≡ x → a ≡ false → v ≡ a → v ≡ (x && y)
stays y e f g = rw (sym e ∙ f) (g ∙ f)

-- those of all days' kinds are nine and those of the ISO kinds
pub all_joined : (p : ℕ → Bool) → every p day_kinds ≡ (joined p 8 && every p iso_kinds)
unfolding every day_kinds iso_kinds
all_joined p = simp and_assoc

-- where nothing was said of some kinds, any values agree
pub unsaid_agree : (f : Facts) (ks : List ℕ) (value : ℕ → ℕ) → none_said f ks ≡ true → all_agree f ks value ≡ true
unfolding agrees
unsaid_agree f ks value e =
    member_every (λ k. agrees (said f k) (value k)) ks
    (λ k m. rw (eqb-true (said f k) 0 (every_member (λ k. eqb (said f k) 0) ks e k m)))
