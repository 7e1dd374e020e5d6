-- Every case of Examined gives what it must: one statement, by computing.
-- Assumes nothing.
use mathlib.Core.List.{map}
use mathlib.Core.Path.{◌≡◌, refl}
use Rattle.calendar.specs.Calendar as calendar
use Rattle.values.specs.Moments as moments
use Rattle.values.specs.Values as values
use Rattle.names.specs.Case.{fold, cased}
use Rattle.text.specs.Digits.{digits, plain, is_digit, digit_run, decimal}
use Rattle.text.specs.Fill.{fill}
use Rattle.names.specs.Names as names
use Rattle.names.specs.Names.{goes_on, first_form, read_name}
use Rattle.names.specs.Naming as naming
use Rattle.text.specs.Space.{is_space, spaces}
use Rattle.conversions.specs.Conversions as conversions
use Rattle.format.specs.Opening as opening
use Rattle.strftime.specs.Writing as writer
use Rattle.agreement.specs.Agreement as agreement
use Rattle.agreement.specs.Search as search
use Rattle.agreement.specs.Verdicts as verdicts
use Rattle.judge.specs.Engines as engines
use Rattle.matching.specs.Elements as elements
use Rattle.matching.specs.Steps as reading
use Rattle.values.specs.Offsets as offsets
use Rattle.strptime.specs.Answers as answers
use Rattle.cases.specs.Starred as cases
use Rattle.cases.specs.Examined as examined
use Rattle.cases.specs.Starred.{Case}
use Rattle.cases.specs.Examined.{examined_cases}

pub all_examined : map (λ (c : Case). c.0) examined_cases ≡ map (λ (c : Case). c.1) examined_cases
unfolding cases.computes examined.computes fold cased digits plain fill is_digit digit_run decimal goes_on first_form read_name
    is_space spaces calendar.computes moments.computes values.computes names.computes naming.computes conversions.computes opening.computes
    writer.computes agreement.computes search.computes verdicts.computes engines.computes elements.computes reading.computes
    answers.computes offsets.computes
all_examined = refl
