-- The whole report (RULES 9.1).
use Rattle.std.specs.Prelude.{ℕ, List, [], ◌∷◌, ◌++◌, drop}
use Rattle.laws.specs.Bytes.{bytes}
use Rattle.lists.specs.Answers.{opened_reading}
use Rattle.lists.specs.Lines.{lines, on_lines}
use Rattle.report.specs.Line.{line_of}
use Rattle.strptime.specs.Answers.{reading}
use Rattle.strptime.specs.declared.Reading.{Reading}
use Rattle.std.specs.Prelude.{Result}
use Rattle.format.specs.declared.opening.Unopened.{Unopened}

abbrev pub header : List ℕ
header = bytes "number place date time\n"

-- a line for each text, as it is read
unfoldable pub answered : (List ℕ → Reading) → List (List ℕ) → List ℕ
answered read [] = []
answered read (t ∷ ts) = line_of (read t) ++ answered read ts

-- the first line is the format, and each other one a text; no line gives the header alone
unfoldable pub report_on : List (List ℕ) → List ℕ
report_on [] = header
report_on (f ∷ ts) = header ++ answered (reading f) ts

-- on an input
unfoldable pub report_of : List ℕ → List ℕ
report_of s = on_lines report_on s

-- the lines for the texts of an input from a place on, by what opening the format answered and stored
abbrev pub lines_by : Result ℕ Unopened → List ℕ → List ℕ → ℕ → List ℕ
lines_by o es s from = answered (opened_reading o es) (lines (drop from s))
