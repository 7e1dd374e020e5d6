-- `judge::counting::day_through` meets its contract. Assumes nothing.
use mathlib.Core.Path.{◌≡◌, ap, ◌∙◌}
use Rattle.calendar.specs.Calendar.{date_of}
use Rattle.calendar.proofs.Dates.{valid_no_fault, number_of_date, number_day}
use Rattle.judge.specs.Engines.{month_days}
use Rattle.laws.proofs.Cases.{clash}
use Rattle.judge.proofs.counting.day_through.Goals as goal

pub date_through-requires : goal.date_through-requires
date_through-requires c =
    let n = number_day c.args.number c.requires.0 c.requires.1 in
    let r = c.from_day_number.ensures in
    let e : c.in-Some.date ≡ date_of c.args.number = cc (c.in-Some.is) in
    rw e (valid_no_fault _ _ _ (number_of_date c.args.number c.requires.0 c.requires.1).valid)

pub returns-in-Some : goal.returns-in-Some
returns-in-Some c =
    let n = number_day c.args.number c.requires.0 c.requires.1 in
    let r = c.from_day_number.ensures in
    let e : c.in-Some.date ≡ date_of c.args.number = cc (c.in-Some.is) in
    rw e at c.date_through.ensures
    ∙ ap (month_days c.args.facts.now) (number_of_date c.args.number c.requires.0 c.requires.1).number

pub returns-in-None : goal.returns-in-None
returns-in-None c =
    let n = number_day c.args.number c.requires.0 c.requires.1 in
    let r = c.from_day_number.ensures in
    let g = c.in-None.is in
    clash (cc)
