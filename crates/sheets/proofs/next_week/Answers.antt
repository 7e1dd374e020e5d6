-- `sheets::next_week` meets its contract. Assumes nothing.
use Rattle.sheets.proofs.Order.{day_year}
use Rattle.sheets.specs.Sheets.{word_from, next_week}
use Rattle.calendar.proofs.Weeks.{number_small}
use mathlib.Core.Path.{sym, ◌∙◌}
use native.Mathlib.Omega.{arith}
use Rattle.sheets.proofs.next_week.Goals as goal

pub overflow_add-day_number : goal.overflow_add-day_number
overflow_add-day_number c =
    let t = c.date_of-date.result in
    omega (arith, c.day_number.ensures, number_small t.year t.month t.day (omega arith) (omega arith))

pub date_word-requires : goal.date_word-requires
date_word-requires c =
    let f = c in
    day_year _ (sym f.from_day_number.ensures ∙ c.in-Some.is)

pub returns-in-Some : goal.returns-in-Some
unfolding next_week word_from
returns-in-Some c =
    let f = c in
    let d = f.date_of-date.ensures in
    rw (
      ← d,
      ← f.weekday.ensures,
      ← f.day_number.ensures,
      ← f.from_day_number.ensures,
      c.in-Some.is,
    ) c.date_word.ensures

pub returns-in-None : goal.returns-in-None
unfolding next_week word_from
returns-in-None c =
    let f = c in
    let d = f.date_of-date.ensures in
    rw (← d, ← f.weekday.ensures, ← f.day_number.ensures, ← f.from_day_number.ensures, c.in-None.is)
