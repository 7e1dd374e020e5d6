-- The table of weeks (RULES 11.2): for each ISO week that has sheets, in order, the week and how many sheets it has.
use Rattle.std.specs.Prelude.{ℕ, suc, Bool, false, cond, ◌||◌, List, [], ◌∷◌, map, eqb, ltb}
use Rattle.sheets.specs.Packing.{packed}
use Rattle.sheets.specs.Sheets.{week_of}

-- a week, as its ISO year and week (RULES 11.1), and how many sheets it has
pub record Tally : Type 0 where
  pub week : ℕ
  pub sheets : ℕ

abbrev pub tally : ℕ → ℕ → Tally
tally k n = record { week = k; sheets = n }

-- one sheet more of a week
unfoldable pub counted : ℕ → List Tally → List Tally
counted k [] = tally k 1 ∷ []
counted k (t ∷ ts) =
    let later = counted k ts in
    cond (ltb k t.week) (tally k 1 ∷ t ∷ ts)
    (cond (eqb k t.week) (tally k (suc t.sheets) ∷ ts) (t ∷ later))

-- the weeks of the words of a list, worked out afresh
unfoldable pub weeks_of : List ℕ → List Tally
weeks_of [] = []
weeks_of (x ∷ s) = counted (week_of x) (weeks_of s)

-- the word of a week: ISO year 14 bits and week 6 bits, together 20, and sheets 44
unfoldable pub tally_widths : List ℕ
tally_widths = 20 ∷ 44 ∷ []

unfoldable pub tally_word : Tally → ℕ
tally_word t = packed tally_widths (t.week ∷ t.sheets ∷ [])

-- the table that a list gives
unfoldable pub table_of : List ℕ → List ℕ
table_of s = map tally_word (weeks_of s)

-- a week is among those of a table
unfoldable pub has_week : ℕ → List Tally → Bool
has_week k [] = false
has_week k (t ∷ ts) = eqb k t.week || has_week k ts
