-- Cases of RULES 5 on flags and widths, each beside what it must give.
use Rattle.std.specs.Prelude.{List, [], ◌∷◌}
use Rattle.laws.specs.Bytes.{bytes}
use Rattle.cases.specs.Starred.{Case, moment, writes, gives}

-- one after the other, with what follows a conversion left alone; before E; a number 0 by -; small and capital letters; and a refusal that
-- is not at the format's start
unfoldable pub column_cases : List Case
column_cases =
    (writes (moment 34 3 5 0 8 9) "%_3d%^11B%_6Y|" 21, gives 21 "  5      MARCH    34|")
    ∷ (writes (moment 34 3 5 0 8 9) "%_5Ey%-Od5" 7, gives 7 "   3455")
    ∷ (writes (moment 34 3 5 0 8 9) "%-H:%-5M:%03S" 7, gives 7 "0:8:009")
    ∷ (writes (moment 34 3 5 0 8 9) "%4P|%^P|%^5p" 13, gives 13 "  am|AM|   AM")
    ∷ (writes (moment 34 3 5 0 8 9) "%d %^d" 5, 3 ∷ 3 ∷ bytes "#####")
    ∷ []
