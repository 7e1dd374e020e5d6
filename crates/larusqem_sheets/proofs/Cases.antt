-- Every case of Cases has the words that it must have: one statement for each table, by computing.
-- Assumes nothing.
use Prim.Native.Nat.{ℕ}
use mathlib.Core.List.{map}
use mathlib.Core.Path.{◌≡◌, refl}
use Rattle.calendar.specs.Calendar as calendar
use Rattle.laws.specs.Lists.{every}
use Rattle.sheets.specs.Packing as bits
use Rattle.sheets.specs.Sheets as sheets
use Rattle.sheet_list.specs.Adding as adding
use Rattle.sheet_list.specs.Ascending as ascending
use Rattle.sheet_list.specs.Weeks as weeks
use Rattle.values.specs.Moments as moments
use Rattle.values.specs.Offsets as offsets
use Rattle.larusqem_sheets.specs.Cases.{Case, pack_cases, unpack_cases, week_cases, answer_cases, judged_cases}
use Rattle.larusqem_sheets.specs.Sheets.{words_of, unpacked_number, unpacked_words, packed_number, packed_word, week_fields, judged}

pub all_packed : map (λ (c : Case). c.0) pack_cases ≡ map (λ (c : Case). c.1) pack_cases
unfolding pack_cases packed_number packed_word calendar.computes offsets.computes moments.computes bits.computes sheets.computes
all_packed = refl

pub all_unpacked : map (λ (c : Case). c.0) unpack_cases ≡ map (λ (c : Case). c.1) unpack_cases
unfolding unpack_cases unpacked_number unpacked_words words_of calendar.computes offsets.computes moments.computes bits.computes
    sheets.computes
all_unpacked = refl

pub all_weeks : map (λ (c : Case). c.0) week_cases ≡ map (λ (c : Case). c.1) week_cases
unfolding week_cases week_fields bits.computes
all_weeks = refl

pub all_answered : map (λ (c : Case). c.0) answer_cases ≡ map (λ (c : Case). c.1) answer_cases
unfolding answer_cases
all_answered = refl

pub all_judged : map (λ (c : ℕ × ℕ). c.0) judged_cases ≡ map (λ (c : ℕ × ℕ). c.1) judged_cases
unfolding judged_cases judged calendar.computes offsets.computes moments.computes bits.computes sheets.computes every
    ascending.ascending_from
    weeks.counted weeks.weeks_of weeks.tally_widths weeks.tally_word weeks.table_of adding.same adding.is_held
all_judged = refl
