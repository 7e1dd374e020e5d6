-- The whole report (RULES 9.3): a line for each week that has sheets, then how many texts were left out, and by which numbers.
use Rattle.std.specs.Prelude.{ℕ, ◌/◌, ◌%◌, cond, List, [], ◌∷◌, ◌++◌, ◌≡◌, eqb, length, take, drop, replicate}
use Rattle.laws.specs.Bytes.{bytes}
use Rattle.lists.specs.Lines.{on_lines}
use Rattle.lists.specs.Putting.{each}
use Rattle.sheet_list.specs.Tallies.{Tallies, tallies_of}
use Rattle.sheet_list.specs.Weeks.{Tally}
use Rattle.strptime.specs.Answers.{reading}
use Rattle.strptime.specs.declared.Reading.{Reading}
use Rattle.text.specs.Digits.{filled, plain}
use Rattle.week_report.specs.Counting.{how_many}
use Rattle.week_report.specs.Texts.{sheets_of, outs_of}

-- a week and its sheets, as 1934-W10 3: the ISO year stands in the high bits of a week, the number of the week in the low six (RULES 11.1)
unfoldable pub week_line : Tally → List ℕ
week_line t =
    filled 48 4 (t.week / 64) ++ (bytes "-W" ++ (filled 48 2 (t.week % 64) ++ (bytes " " ++ (plain t.sheets ++ bytes "\n"))))

unfoldable pub week_lines : List Tally → List ℕ
week_lines [] = []
week_lines (t ∷ ts) = week_line t ++ week_lines ts

-- how many texts are left out, as left out: 2
unfoldable pub total_line : ℕ → List ℕ
total_line n = bytes "left out: " ++ (plain n ++ bytes "\n")

-- how many of them by a number, as number 6: 2; a number that left out none has no line
unfoldable pub number_line : ℕ → ℕ → List ℕ
number_line k n = cond (eqb n 0) [] (bytes "number " ++ (plain k ++ (bytes ": " ++ (plain n ++ bytes "\n"))))

-- numbers are below 16
abbrev pub numbers : ℕ
numbers = 16

unfoldable pub left_out : List ℕ → List ℕ
left_out ns = total_line (length ns) ++ each (λ k. number_line k (how_many k ns)) numbers

-- the number of sheets that would be of a 1,025th week
abbrev pub no_room : ℕ
no_room = 14

-- the weeks of the sheets that are counted; then the texts that gave none, and the sheets for which there was no room
unfoldable pub weeks_and_left : Tallies → List ℕ → List ℕ
weeks_and_left a ns = week_lines a.weeks ++ left_out (ns ++ replicate a.left no_room)

-- each text is read, and their sheets are counted one after another
unfoldable pub week_report_by : (List ℕ → Reading) → List (List ℕ) → List ℕ
week_report_by read ts = weeks_and_left (tallies_of (sheets_of read ts)) (outs_of read ts)

-- the first line is the format, and each other one a text
unfoldable pub week_report_on : List (List ℕ) → List ℕ
week_report_on [] = left_out []
week_report_on (f ∷ ts) = week_report_by (reading f) ts

-- on an input
unfoldable pub week_report_of : List ℕ → List ℕ
week_report_of s = on_lines week_report_on s

-- a report at the front of a buffer: its bytes, as many as it has, and every other byte as it was
pub record Reported (report before after : List ℕ) (r : ℕ) : Type 0 where
  pub ends : r ≡ length report
  pub stands : take r after ≡ report
  pub kept : drop r after ≡ drop r before

-- everything here, for proofs that compute
unfoldable pub computes : Unit {0}
unfolding week_line week_lines total_line number_line left_out weeks_and_left week_report_by week_report_on week_report_of
computes = tt
