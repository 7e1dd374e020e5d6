-- Cases of RULES 9.3, each beside what it must write. That no second day agrees is found at the calendar's end, which is not computed
-- here: where a text says a day, its reading is given.
use Rattle.std.specs.Prelude.{ℕ, ◌+◌, ◌-◌, ◌*◌, List, [], ◌∷◌, map, get_or, replicate}
use Prim.Native.String.{String}
use Rattle.calendar.specs.Calendar.{date}
use Rattle.laws.specs.Bytes.{bytes}
use Rattle.sheet_list.specs.Tallies.{tallies}
use Rattle.sheet_list.specs.Weeks.{tally}
use Rattle.strptime.specs.Answers.{refused, finished}
use Rattle.strptime.specs.declared.Reading.{Reading}
use Rattle.week_report.specs.Weeks.{weeks_and_left, week_report_by, week_report_of}
use Rattle.std.specs.Prelude.{None, Some}

-- a case: what is done, and what it must give
abbrev pub Case : Type 0
Case = List ℕ × List ℕ

-- what is written for a list; and for texts with these readings, the first of a, the second of b, and so on
unfoldable pub lists : String → List ℕ
lists s = week_report_of (bytes s)

unfoldable pub says : ℕ → ℕ → ℕ → Reading
says y m d = finished 0 (Some (date y m d)) (Some 23) None None None

unfoldable pub texts : List Reading → List (List ℕ) → List ℕ
texts rs ts = week_report_by (λ t. get_or rs (get_or t 0 0 - 97) (refused 6 0)) ts

unfoldable pub week_cases : List Case
week_cases =
    -- a year's last day in a week of the next year; weeks in order, days not; a day twice; refused, and without a day
    (
      texts
          (says 1 12 31 ∷ says 1 1 8 ∷ says 1 1 1 ∷ refused 9 1 ∷ says 1 1 7 ∷ finished 0 None (Some 23) None None None
          ∷ says 1 12 30 ∷ [])
          (map (λ (b : ℕ). b ∷ []) (bytes "abcdefgzyc")),
      bytes "0001-W01 3\n0001-W02 1\n0001-W52 1\n0002-W01 1\nleft out: 4\nnumber 6: 2\nnumber 9: 1\nnumber 13: 1\n",
    )
    -- no room
    ∷ (
      weeks_and_left (tallies (tally (64 * 1934 + 10) 3 ∷ tally (64 * 1935 + 1) 120 ∷ []) 2) (6 ∷ 10 ∷ 6 ∷ []),
      bytes "1934-W10 3\n1935-W01 120\nleft out: 5\nnumber 6: 2\nnumber 10: 1\nnumber 14: 2\n",
    )
    -- lists
    ∷ (lists "%H\n7\nx\n24\n8\n", bytes "left out: 4\nnumber 6: 1\nnumber 7: 1\nnumber 13: 2\n")
    ∷ (lists "%d %b\n5 mar", bytes "left out: 1\nnumber 10: 1\n")
    ∷ (lists "%Q\n\n1", bytes "left out: 2\nnumber 3: 2\n")
    ∷ (lists "", bytes "left out: 0\n")
    ∷ (lists "%F", bytes "left out: 0\n")
    ∷ (lists "%F\n", bytes "left out: 0\n")
    ∷ (week_report_of (replicate 32769 10), bytes "too long\n")
    ∷ []

-- everything here, for the proof that computes
unfoldable pub computes : Unit {0}
unfolding lists says texts week_cases
computes = tt
