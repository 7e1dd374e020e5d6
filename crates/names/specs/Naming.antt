-- How names count (RULES 7): months from January 1, weekdays from Monday 1; AM is 0 and PM is 1.
use Rattle.std.specs.Prelude.{ℕ, ◌+◌, ◌-◌, List}
use Rattle.names.specs.Names.{name_at}
use Rattle.names.specs.declared.names.Names.{Names}
use Rattle.names.specs.declared.names.Names.TheVariants.{Weekdays, Months, Halves}

-- the value of a table's first name
unfoldable pub first_value : Names → ℕ
first_value Weekdays = 1
first_value Months = 1
first_value Halves = 0

-- the place of a value in its table, counted from 0, and the value at a place
unfoldable pub place_for : Names → ℕ → ℕ
place_for t v = v - first_value t

unfoldable pub value_at : Names → ℕ → ℕ
value_at t i = first_value t + i

-- the name of a value
unfoldable pub name_for : Names → ℕ → List ℕ
name_for t v = name_at t (place_for t v)

-- everything here, for proofs that compute
unfoldable pub computes : Unit {0}
unfolding first_value place_for value_at name_for
computes = tt
