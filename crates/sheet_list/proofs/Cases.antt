-- Every case of Cases comes out as it must: one statement for each table, by computing.
-- Assumes nothing.
use Prim.Native.Nat.{ℕ}
use mathlib.Core.Bool.{Bool}
use mathlib.Core.List.{List, map}
use mathlib.Core.Path.{◌≡◌, refl}
use Rattle.calendar.specs.Calendar as calendar
use Rattle.laws.specs.Lists.{every}
use Rattle.sheets.specs.Packing as bits
use Rattle.sheets.specs.Sheets as sheets
use Rattle.values.specs.Moments as moments
use Rattle.values.specs.Offsets as offsets
use Rattle.sheet_list.specs.Adding as adding
use Rattle.sheet_list.specs.Adding.{Outcome}
use Rattle.sheet_list.specs.Ascending as ascending
use Rattle.sheet_list.specs.Cases.{table_cases, held_cases, full_cases, adding_cases, many_cases}
use Rattle.sheet_list.specs.Weeks as weeks

-- all that they compute by
unfoldable computes : Unit {0}
unfolding calendar.computes offsets.computes moments.computes bits.computes sheets.computes every
    ascending.ascending_from ascending.inserted weeks.counted weeks.weeks_of weeks.tally_widths weeks.tally_word weeks.table_of
    weeks.has_week
    adding.same adding.is_held adding.is_full adding.over adding.with adding.adding_word adding.adding_packed adding.adding
    adding.adding_all
    adding.sheet_at adding.adding_words
computes = tt

pub all_tables : map (λ (c : List ℕ × List ℕ). c.0) table_cases ≡ map (λ (c : List ℕ × List ℕ). c.1) table_cases
unfolding table_cases computes
all_tables = refl

pub all_held : map (λ (c : Bool × Bool). c.0) held_cases ≡ map (λ (c : Bool × Bool). c.1) held_cases
unfolding held_cases computes
all_held = refl

pub all_full : map (λ (c : Bool × Bool). c.0) full_cases ≡ map (λ (c : Bool × Bool). c.1) full_cases
unfolding full_cases computes
all_full = refl

pub all_added : map (λ (c : Outcome × Outcome). c.0) adding_cases ≡ map (λ (c : Outcome × Outcome). c.1) adding_cases
unfolding adding_cases computes
all_added = refl

pub all_many : map (λ (c : Outcome × Outcome). c.0) many_cases ≡ map (λ (c : Outcome × Outcome). c.1) many_cases
unfolding many_cases computes
all_many = refl
