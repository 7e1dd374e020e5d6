-- `names::names::short_place` meets its contract: each table of short forms is made of the names one by one.
use mathlib.Core.Path.{refl}
use Rattle.laws.specs.Lists.{every}
use Rattle.names.specs.Case.{fold}
use Rattle.names.specs.Names.{computes}
use Rattle.names.proofs.Shorts.{key_row, key, placed_at}
use Rattle.names.proofs.names.short_place.Goals as goal

pub returns-in-Weekdays : goal.returns-in-Weekdays
unfolding every key_row key fold computes
returns-in-Weekdays c =
    rw c.in-Weekdays.is
    (placed_at _ c.args.s.now c.folded-a.result c.folded-b.result c.folded.result c.find.ensures refl refl
    (rw (c.folded-a.ensures, c.folded-b.ensures, c.folded.ensures) refl))

pub returns-in-Months : goal.returns-in-Months
unfolding every key_row key fold computes
returns-in-Months c =
    rw c.in-Months.is
    (placed_at _ c.args.s.now c.folded-a.result c.folded-b.result c.folded-in-Months.result c.find-in-Months.ensures refl refl
    (rw (c.folded-a.ensures, c.folded-b.ensures, c.folded-in-Months.ensures) refl))

pub returns-in-Halves : goal.returns-in-Halves
unfolding every key_row key fold computes
returns-in-Halves c =
    rw c.in-Halves.is
    (placed_at _ c.args.s.now c.folded-a.result c.folded-b.result 32 c.find-in-Halves.ensures refl refl
    (rw (c.folded-a.ensures, c.folded-b.ensures) refl))
