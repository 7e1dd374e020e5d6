-- Every case of Cases comes out as it must: one statement for each table, by computing.
use Prim.Native.Nat.{ℕ}
use mathlib.Core.List.{map}
use mathlib.Core.Path.{◌≡◌, refl}
use Rattle.calendar.specs.Calendar as calendar
use Rattle.strptime.specs.Answers as answers
use Rattle.values.specs.Moments as moments
use Rattle.values.specs.Offsets as offsets
use Rattle.sheets.specs.Cases.{packing_cases, unpacking_cases, words_cases, reading_cases, week_cases}
use Rattle.sheets.specs.Packing as bits
use Rattle.sheets.specs.Sheets as sheets
use Rattle.sheets.specs.declared.SheetFields.{SheetFields}
use Rattle.std.specs.Prelude.{Option, Result, ℕ}
use Rattle.sheets.specs.declared.Sheet.{Sheet}
use Rattle.sheets.specs.declared.Unpackable.{Unpackable}

pub all_packed : map (λ (c : Result ℕ Unpackable × Result ℕ Unpackable). c.0) packing_cases
    ≡ map (λ (c : Result ℕ Unpackable × Result ℕ Unpackable). c.1) packing_cases
unfolding packing_cases calendar.computes offsets.computes moments.computes bits.computes sheets.computes
all_packed = refl

pub all_unpacked : map (λ (c : Option Sheet × Option Sheet). c.0) unpacking_cases
    ≡ map (λ (c : Option Sheet × Option Sheet). c.1) unpacking_cases
unfolding unpacking_cases calendar.computes offsets.computes moments.computes bits.computes sheets.computes
all_unpacked = refl

pub all_worded : map (λ (c : SheetFields × SheetFields). c.0) words_cases ≡ map (λ (c : SheetFields × SheetFields). c.1) words_cases
unfolding words_cases sheets.computes
all_worded = refl

pub reads_all : map (λ (c : SheetFields × SheetFields). c.0) reading_cases ≡ map (λ (c : SheetFields × SheetFields). c.1) reading_cases
unfolding reading_cases answers.computes sheets.computes
reads_all = refl

pub all_weeks : map (λ (c : ℕ × ℕ). c.0) week_cases ≡ map (λ (c : ℕ × ℕ). c.1) week_cases
unfolding week_cases calendar.computes bits.computes sheets.computes
all_weeks = refl
