-- `judge::testing::day_agrees` meets its contract. Assumes nothing.
use Prim.Native.Nat.{ℕ}
use mathlib.Core.Bool.{Bool, not, ◌&&◌}
use mathlib.Core.Path.{◌≡◌, refl, sym, ap, ◌∙◌}
use native.Mathlib.Omega.{arith}
use borrow.Author.Tests.{not-false}
use Rattle.kinds.specs.Kinds as kinds
use Rattle.kinds.specs.Kinds.{day_kinds}
use Rattle.laws.specs.Lists.{every, range}
use Rattle.values.specs.Values.{date_value, date_values}
use Rattle.agreement.specs.Agreement.{said, agrees, date_agrees}
use Rattle.agreement.specs.declared.Facts.{Facts}
use Rattle.calendar.specs.declared.Date.{Date}
use Rattle.judge.specs.Private.{iso_kinds}
use Rattle.judge.proofs.DayValues.{before_number, day_of_year_is, weekday_is, sunday_week_is, monday_week_is}
use Rattle.judge.proofs.DayValues.{joined, joins, stays, all_joined, unsaid_agree}
use Rattle.judge.proofs.testing.day_agrees.Goals as goal
use Rattle.judge.proofs.testing.day_agrees.Goals.{Joined-agree, then-agree, else-agree, Joined-agree-2, then-agree-2, else-agree-2}
use Rattle.judge.proofs.testing.day_agrees.Goals.{Joined-agree-3, then-agree-3, else-agree-3, Joined-agree-4, then-agree-4, else-agree-4}
use Rattle.judge.proofs.testing.day_agrees.Goals.{Joined-agree-5, then-agree-5, else-agree-5, Joined-agree-6, then-agree-6, else-agree-6}
use Rattle.judge.proofs.testing.day_agrees.Goals.{Joined-agree-7, then-agree-7, else-agree-7, Joined-agree-8, then-agree-8, else-agree-8}
use Rattle.judge.proofs.testing.day_agrees.Goals.{Then-agree-9}

-- the test of a kind
abbrev test : Facts → Date → ℕ → Bool
test facts date k = agrees (said facts k) (date_value k date)

tested-1 : (c : Joined-agree) → c.if-agree.value ≡ joined (test c.args.facts.now c.args.date) 1
unfolding date_value date_values
tested-1 c =
    elim c.if-agree.branch [
      | then-agree w ↦ joins c.agree.ensures w.if-agree.true w.value-is w.agree-then-agree.ensures
      | else-agree w ↦ stays _ c.agree.ensures w.if-agree.false w.value-is
    ]

tested-2 : (c : Joined-agree-2) → c.if-agree-2.value ≡ joined (test c.args.facts.now c.args.date) 2
unfolding date_value date_values
tested-2 c =
    elim c.if-agree-2.branch [
      | then-agree-2 w ↦ joins (tested-1 (goal.at.Joined-agree-2 c).Joined-agree) w.if-agree-2.true w.value-is w.agree-then-agree-2.ensures
      | else-agree-2 w ↦ stays _ (tested-1 (goal.at.Joined-agree-2 c).Joined-agree) w.if-agree-2.false w.value-is
    ]

tested-3 : (c : Joined-agree-3) → c.if-agree-3.value ≡ joined (test c.args.facts.now c.args.date) 3
unfolding date_value date_values
tested-3 c =
    elim c.if-agree-3.branch [
      | then-agree-3 w ↦ joins (tested-2 (goal.at.Joined-agree-3 c).Joined-agree-2) w.if-agree-3.true w.value-is
          w.agree-then-agree-3.ensures
      | else-agree-3 w ↦ stays _ (tested-2 (goal.at.Joined-agree-3 c).Joined-agree-2) w.if-agree-3.false w.value-is
    ]

tested-4 : (c : Joined-agree-4) → c.if-agree-4.value ≡ joined (test c.args.facts.now c.args.date) 4
unfolding date_value date_values
tested-4 c =
    elim c.if-agree-4.branch [
      | then-agree-4 w ↦ joins (tested-3 (goal.at.Joined-agree-4 c).Joined-agree-3) w.if-agree-4.true w.value-is
          w.agree-then-agree-4.ensures
      | else-agree-4 w ↦ stays _ (tested-3 (goal.at.Joined-agree-4 c).Joined-agree-3) w.if-agree-4.false w.value-is
    ]

tested-5 : (c : Joined-agree-5) → c.if-agree-5.value ≡ joined (test c.args.facts.now c.args.date) 5
unfolding date_value date_values
tested-5 c =
    elim c.if-agree-5.branch [
      | then-agree-5 w ↦ joins (tested-4 (goal.at.Joined-agree-5 c).Joined-agree-4) w.if-agree-5.true w.value-is
          (w.agree-then-agree-5.ensures ∙ ap (agrees (said c.args.facts.now kinds.day_of_year))
          (day_of_year_is c.args.date c.requires.number_value.0 c.requires.number_value.1))
      | else-agree-5 w ↦ stays _ (tested-4 (goal.at.Joined-agree-5 c).Joined-agree-4) w.if-agree-5.false w.value-is
    ]

tested-6 : (c : Joined-agree-6) → c.if-agree-6.value ≡ joined (test c.args.facts.now c.args.date) 6
unfolding date_value date_values
tested-6 c =
    elim c.if-agree-6.branch [
      | then-agree-6 w ↦ joins (tested-5 (goal.at.Joined-agree-6 c).Joined-agree-5) w.if-agree-6.true w.value-is
          (w.agree-then-agree-6.ensures ∙ ap (agrees (said c.args.facts.now kinds.weekday))
          (weekday_is c.args.date c.requires.number_value.0 c.requires.number_value.1))
      | else-agree-6 w ↦ stays _ (tested-5 (goal.at.Joined-agree-6 c).Joined-agree-5) w.if-agree-6.false w.value-is
    ]

tested-7 : (c : Joined-agree-7) → c.if-agree-7.value ≡ joined (test c.args.facts.now c.args.date) 7
unfolding date_value date_values
tested-7 c =
    elim c.if-agree-7.branch [
      | then-agree-7 w ↦ joins (tested-6 (goal.at.Joined-agree-7 c).Joined-agree-6) w.if-agree-7.true w.value-is
          (w.agree-then-agree-7.ensures ∙ ap (agrees (said c.args.facts.now kinds.sunday_week))
          (sunday_week_is c.args.date c.requires.number_value.0 c.requires.number_value.1))
      | else-agree-7 w ↦ stays _ (tested-6 (goal.at.Joined-agree-7 c).Joined-agree-6) w.if-agree-7.false w.value-is
    ]

tested-8 : (c : Joined-agree-8) → c.if-agree-8.value ≡ joined (test c.args.facts.now c.args.date) 8
unfolding date_value date_values
tested-8 c =
    elim c.if-agree-8.branch [
      | then-agree-8 w ↦ joins (tested-7 (goal.at.Joined-agree-8 c).Joined-agree-7) w.if-agree-8.true w.value-is
          (w.agree-then-agree-8.ensures ∙ ap (agrees (said c.args.facts.now kinds.monday_week))
          (monday_week_is c.args.date c.requires.number_value.0 c.requires.number_value.1))
      | else-agree-8 w ↦ stays _ (tested-7 (goal.at.Joined-agree-8 c).Joined-agree-7) w.if-agree-8.false w.value-is
    ]

pub overflow_sub-number : goal.overflow_sub-number
overflow_sub-number c =
    omega (arith, before_number c.args.date c.requires.number_value.0 c.requires.number_value.1)

pub overflow_sub-number-then-agree-7 : goal.overflow_sub-number-then-agree-7
overflow_sub-number-then-agree-7 c =
    omega (arith, before_number c.args.date c.requires.number_value.0 c.requires.number_value.1)

pub overflow_add-before : goal.overflow_add-before
overflow_add-before c =
    omega (arith, before_number c.args.date c.requires.number_value.0 c.requires.number_value.1)

pub overflow_sub-number-then-agree-8 : goal.overflow_sub-number-then-agree-8
overflow_sub-number-then-agree-8 c =
    omega (arith, before_number c.args.date c.requires.number_value.0 c.requires.number_value.1)

-- where the nine agree, the ISO kinds decide
rest : (c : Then-agree-9) → date_agrees c.args.facts.now c.args.date ≡ every (test c.args.facts.now c.args.date) iso_kinds
unfolding date_agrees
rest c =
    all_joined (test c.args.facts.now c.args.date)
    ∙ ap (λ (t : Bool). t && every (test c.args.facts.now c.args.date) iso_kinds)
    (sym (tested-8 (goal.at.Then-agree-9 c).Joined-agree-8) ∙ c.if-agree-9.true)

pub returns-then-not-iso : goal.returns-then-not-iso
unfolding iso_kinds
returns-then-not-iso c =
    let none = not-false _ (sym c.requires.number_bound.1 ∙ c.if-not-iso.true) in
    ap not c.if-not-iso.true
    ∙ sym (rest (goal.at.returns-then-not-iso c).Then-agree-9
    ∙ unsaid_agree c.args.facts.now iso_kinds (λ k. date_value k c.args.date) none)

pub returns-else-not-iso : goal.returns-else-not-iso
unfolding iso_kinds range
returns-else-not-iso c = c.date_kinds_agree.ensures ∙ sym (rest (goal.at.returns-else-not-iso c).Then-agree-9)

pub returns-else-agree-9 : goal.returns-else-agree-9
unfolding date_agrees
returns-else-agree-9 c =
    stays _ (tested-8 (goal.at.returns-else-agree-9 c).Joined-agree-8) c.if-agree-9.false refl
    ∙ sym (all_joined (test c.args.facts.now c.args.date))
