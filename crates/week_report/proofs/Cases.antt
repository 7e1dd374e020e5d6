-- Every case of Cases gives what it must: one statement, by computing.
-- Assumes nothing.
use mathlib.Core.List.{map}
use mathlib.Core.Path.{◌≡◌, refl}
use Rattle.agreement.specs.Agreement as agreement
use Rattle.agreement.specs.Search as search
use Rattle.agreement.specs.Verdicts as verdicts
use Rattle.calendar.specs.Calendar as calendar
use Rattle.conversions.specs.Conversions as conversions
use Rattle.format.specs.Opening as opening
use Rattle.judge.specs.Engines as engines
use Rattle.laws.specs.Bytes.{bytes}
use Rattle.laws.specs.Lists.{range}
use Rattle.lists.specs.Lines.{onto, lines, on_lines}
use Rattle.lists.specs.Putting.{each}
use Rattle.matching.specs.Elements as elements
use Rattle.matching.specs.Steps as steps
use Rattle.sheet_list.specs.Tallies as tallies
use Rattle.sheet_list.specs.Weeks.{counted, has_week}
use Rattle.sheets.specs.Packing as packing
use Rattle.sheets.specs.Sheets as sheets
use Rattle.strptime.specs.Answers as answers
use Rattle.names.specs.Case.{fold, cased}
use Rattle.text.specs.Digits.{leading, filled, digits, plain, is_digit, digit_run, decimal}
use Rattle.names.specs.Names as names
use Rattle.names.specs.Names.{goes_on, first_form, read_name}
use Rattle.names.specs.Naming as naming
use Rattle.text.specs.Space.{is_space, spaces}
use Rattle.values.specs.Moments as moments
use Rattle.values.specs.Offsets as offsets
use Rattle.values.specs.Values as values
use Rattle.week_report.specs.Cases as cases
use Rattle.week_report.specs.Cases.{Case, week_cases}
use Rattle.week_report.specs.Counting.{how_many}
use Rattle.week_report.specs.Texts as texts
use Rattle.week_report.specs.Weeks as weeks
use Rattle.words.specs.Words as words

pub all_written : map (λ (c : Case). c.0) week_cases ≡ map (λ (c : Case). c.1) week_cases
unfolding cases.computes bytes range onto lines on_lines each fold cased leading filled digits plain is_digit digit_run decimal
    goes_on first_form read_name is_space spaces calendar.computes moments.computes values.computes offsets.computes names.computes
    naming.computes conversions.computes opening.computes agreement.computes search.computes verdicts.computes engines.computes
    elements.computes steps.computes answers.computes packing.computes sheets.computes words.computes tallies.computes counted has_week
    how_many texts.computes weeks.computes
all_written = refl
