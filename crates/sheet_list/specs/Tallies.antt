-- Sheets counted by their weeks alone, one after another and without a list (RULES 9.3).
use Rattle.std.specs.Prelude.{ℕ, suc, ◌<◌, Bool, true, cond, not, ◌&&◌, ◌||◌, List, [], ◌∷◌, ◌≡◌, eqb, length}
use Rattle.sheets.specs.Sheets.{is_packing, week_of}
use Rattle.sheet_list.specs.Adding.{Held, list_of, table_length, is_held, adding_word}
use Rattle.sheet_list.specs.Weeks.{Tally, counted, weeks_of, has_week}

-- the weeks that have sheets, in order, and how many sheets were left out
pub record Tallies : Type 0 where
  pub weeks : List Tally
  pub left : ℕ

abbrev pub tallies : List Tally → ℕ → Tallies
tallies ts n = record { weeks = ts; left = n }

-- of no sheets
abbrev pub no_tallies : Tallies
no_tallies = tallies [] 0

-- there is room for a sheet of a week: there are fewer than 1,024 weeks, or its own is among them
unfoldable pub has_room : ℕ → List Tally → Bool
has_room k ts = not (eqb (length ts) table_length) || has_week k ts

-- with one sheet more, by its word: it is counted where there is room, else left out; so is a word that is no packing
unfoldable pub with_sheet : ℕ → Tallies → Tallies
with_sheet x a =
    cond (is_packing x && has_room (week_of x) a.weeks) (tallies (counted (week_of x) a.weeks) a.left)
    (tallies a.weeks (suc a.left))

-- with many
unfoldable pub with_sheets : List ℕ → Tallies → Tallies
with_sheets [] a = a
with_sheets (x ∷ xs) a = with_sheets xs (with_sheet x a)

-- of some sheets, by their words
abbrev pub tallies_of : List ℕ → Tallies
tallies_of xs = with_sheets xs no_tallies

-- What is counted alone is what adding counts: of a list with its table, and with room in its array, adding the word of a sheet gives the
-- same weeks, and refuses it exactly where it is left out.
unfoldable pub CountsAlike : Type 0
CountsAlike =
    (i x n : ℕ) (h : Held) → is_packing x ≡ true → is_held h ≡ true → h.count < length h.words
    → with_sheet x (tallies (weeks_of (list_of h)) n)
    ≡ tallies (weeks_of (list_of (adding_word i x h).held)) (cond (eqb (adding_word i x h).number 0) n (suc n))

-- everything here, for proofs that compute
unfoldable pub computes : Unit {0}
unfolding has_room with_sheet with_sheets
computes = tt
