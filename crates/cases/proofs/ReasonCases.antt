-- Every case of ReasonCases gives what it must: one statement, by computing.
-- Assumes nothing.
use mathlib.Core.List.{map, flat_map}
use mathlib.Core.Path.{◌≡◌, refl}
use Rattle.calendar.specs.Calendar as calendar
use Rattle.values.specs.Moments as moments
use Rattle.values.specs.Values as values
use Rattle.names.specs.Case.{fold, cased}
use Rattle.text.specs.Digits.{digits, plain, is_digit, digit_run, decimal}
use Rattle.names.specs.Names as names
use Rattle.names.specs.Names.{goes_on, first_form, read_name}
use Rattle.names.specs.Naming as naming
use Rattle.text.specs.Space.{is_space, spaces}
use Rattle.conversions.specs.Conversions as conversions
use Rattle.format.specs.Opening as opening
use Rattle.agreement.specs.Agreement as agreement
use Rattle.agreement.specs.Search as search
use Rattle.agreement.specs.Verdicts as verdicts
use Rattle.judge.specs.Engines as engines
use Rattle.laws.specs.Bytes.{bytes}
use Rattle.laws.specs.Lists.{range}
use Rattle.matching.specs.Elements as elements
use Rattle.matching.specs.Extents as extents
use Rattle.matching.specs.Steps as reading
use Rattle.reasons.specs.Quarrels as quarrels
use Rattle.reasons.specs.Reasons as reasons
use Rattle.values.specs.Offsets as offsets
use Rattle.strptime.specs.Answers as answers
use Rattle.cases.specs.ReasonCases as cases
use Rattle.cases.specs.ReasonCases.{reason_cases}
use Rattle.cases.specs.Starred.{Case}

pub all_explained : map (λ (c : Case). c.0) reason_cases ≡ map (λ (c : Case). c.1) reason_cases
unfolding cases.computes bytes range flat_map fold cased digits plain is_digit digit_run decimal goes_on first_form read_name is_space
    spaces
    calendar.computes moments.computes values.computes names.computes naming.computes conversions.computes opening.computes
    agreement.computes search.computes verdicts.computes engines.computes elements.computes extents.computes reading.computes
    quarrels.computes reasons.computes answers.computes offsets.computes
all_explained = refl
