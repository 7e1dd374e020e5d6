-- Every case of Cases gives what it must: one statement, by computing.
-- Assumes nothing.
use mathlib.Core.List.{map}
use mathlib.Core.Path.{◌≡◌, refl}
use Rattle.calendar.specs.Calendar as calendar
use Rattle.conversions.specs.Conversions as conversions
use Rattle.format.specs.Opening as opening
use Rattle.agreement.specs.Agreement as agreement
use Rattle.agreement.specs.Search as search
use Rattle.agreement.specs.Verdicts as verdicts
use Rattle.judge.specs.Engines as engines
use Rattle.laws.specs.Bytes.{bytes}
use Rattle.laws.specs.Lists.{range}
use Rattle.lists.specs.Lines.{onto, lines, on_lines}
use Rattle.lists.specs.Putting.{each, date_shown}
use Rattle.matching.specs.Elements as elements
use Rattle.matching.specs.Extents as extents
use Rattle.matching.specs.Steps as steps
use Rattle.reasons.specs.Quarrels as quarrels
use Rattle.reasons.specs.Reasons as reasons
use Rattle.strptime.specs.Answers as answers
use Rattle.names.specs.Case.{fold, cased}
use Rattle.text.specs.Digits.{leading, filled, digits, plain, is_digit, digit_run, decimal}
use Rattle.names.specs.Names as names
use Rattle.names.specs.Names.{goes_on, first_form, read_name}
use Rattle.names.specs.Naming as naming
use Rattle.text.specs.Space.{is_space, spaces}
use Rattle.values.specs.Moments as moments
use Rattle.values.specs.Values as values
use Rattle.refusals.specs.Blocks.{block, blocks, block_by, refusals_on, refusals_of}
use Rattle.refusals.specs.Cases as cases
use Rattle.refusals.specs.Cases.{Case, refusal_cases}
use Rattle.refusals.specs.Marks.{marked, covers, is_marked, last_mark, mark_at, marks_line}
use Rattle.refusals.specs.Over.{some, tally, most}
use Rattle.refusals.specs.Sentences.{bad_conversion, mismatch, noun, quarrel, part_name, open_day, missing_hour, open_hour}
use Rattle.refusals.specs.Sentences.{open_sentence, sentence}
use Rattle.refusals.specs.Shown.{shown_byte, shown}
use Rattle.refusals.specs.Words.{labels, label, label_before, phrase, begins, begins_from, words_from, separator, phrase_at, word_list}

pub all_written : map (λ (c : Case). c.0) refusal_cases ≡ map (λ (c : Case). c.1) refusal_cases
unfolding cases.computes bytes range onto lines on_lines each date_shown fold cased leading filled digits plain is_digit digit_run decimal
    goes_on first_form read_name is_space spaces calendar.computes moments.computes values.computes names.computes naming.computes
    conversions.computes opening.computes agreement.computes search.computes verdicts.computes engines.computes elements.computes
    extents.computes steps.computes answers.computes quarrels.computes reasons.computes block blocks block_by refusals_on refusals_of
    marked covers is_marked last_mark mark_at marks_line some tally most bad_conversion mismatch noun quarrel part_name open_day
    missing_hour
    open_hour open_sentence sentence shown_byte shown labels label label_before phrase begins begins_from words_from separator phrase_at
    word_list
all_written = refl
