-- A line of the report: `number place date time` (RULES 9.1).
use Rattle.std.specs.Prelude.{ℕ, List, ◌++◌}
use Rattle.laws.specs.Bytes.{bytes}
use Rattle.lists.specs.Putting.{date_shown}
use Rattle.strptime.specs.declared.Reading.{Reading}
use Rattle.text.specs.Digits.{filled, plain}
use Rattle.std.specs.Prelude.{None, Option, Some}
use Rattle.calendar.specs.declared.Date.{Date}

-- an unsaid day is `-`
unfoldable pub day_shown : Option Date → List ℕ
day_shown None = bytes "-"
day_shown (Some d) = date_shown d

-- an unsaid hour, minute or second is `--`
unfoldable pub said_shown : Option ℕ → List ℕ
said_shown None = bytes "--"
said_shown (Some n) = filled 48 2 n

-- date and time, as YYYY-MM-DD HH:MM:SS
unfoldable pub moment_shown : Option Date → Option ℕ → Option ℕ → Option ℕ → List ℕ
moment_shown d h m s =
    day_shown d ++ (bytes " " ++ (said_shown h ++ (bytes ":" ++ (said_shown m ++ (bytes ":" ++ said_shown s)))))

-- the whole line, with the newline that ends it; what an answer leaves unsaid is shown so, whatever its number
unfoldable pub line_of : Reading → List ℕ
line_of r =
    plain r.number
    ++ (bytes " " ++ (plain r.place ++ (bytes " " ++ (moment_shown r.day r.hour r.minute r.second ++ bytes "\n"))))
