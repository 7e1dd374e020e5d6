-- Every case of ColumnCases gives what it must: one statement, by computing.
-- Assumes nothing.
use mathlib.Core.List.{map}
use mathlib.Core.Path.{◌≡◌, refl}
use Rattle.calendar.specs.Calendar as calendar
use Rattle.values.specs.Moments as moments
use Rattle.values.specs.Offsets as offsets
use Rattle.values.specs.Values as values
use Rattle.names.specs.Case.{fold, capital, cased}
use Rattle.text.specs.Digits.{digits, plain, is_digit, digit_run, decimal}
use Rattle.text.specs.Fill.{fill}
use Rattle.names.specs.Names as tables
use Rattle.names.specs.Naming as naming
use Rattle.conversions.specs.Conversions as conversions
use Rattle.format.specs.Opening as opening
use Rattle.strftime.specs.Writing as writer
use Rattle.cases.specs.ColumnCases.{column_cases}
use Rattle.cases.specs.Starred as cases
use Rattle.cases.specs.Starred.{Case}

pub columns_hold : map (λ (c : Case). c.0) column_cases ≡ map (λ (c : Case). c.1) column_cases
unfolding cases.computes column_cases fold capital cased digits plain fill is_digit digit_run decimal calendar.computes moments.computes
    offsets.computes values.computes tables.computes naming.computes conversions.computes opening.computes writer.computes
columns_hold = refl
