-- What the code passes through on the way: no part of a promise of the crate.
use Rattle.std.specs.Prelude.{ℕ, suc, ◌+◌, ◌*◌, ◌/◌, ◌^◌, ◌≤◌, Bool, true, false, cond, not, ◌&&◌, ◌||◌, List, [], ◌∷◌, ◌++◌}
use Rattle.std.specs.Prelude.{map, ◌≡◌, eqb, ltb, length, get_or, take, drop}
use Rattle.laws.specs.Lists.{every}
use Rattle.sheets.specs.Sheets.{is_packing, week_of}
use Rattle.sheet_list.specs.Adding.{over, most_words, table_length}
use Rattle.sheet_list.specs.Ascending.{ascending}
use Rattle.sheet_list.specs.Tallies.{tallies_of}
use Rattle.sheet_list.specs.Weeks.{tally_word}
use Rattle.sheet_list.specs.declared.tallies.Tallied.{Tallied}

-- a word put at a place of a list
unfoldable pub put_at : ℕ → ℕ → List ℕ → List ℕ
put_at at x s = take at s ++ (x ∷ drop at s)

-- how many words at the front are of a week
unfoldable pub week_run : ℕ → List ℕ → ℕ
week_run k [] = 0
week_run k (x ∷ s) = let more = suc (week_run k s) in cond (eqb (week_of x) k) more 0

-- what one of a week's bits is in a word of the table
abbrev pub week : ℕ
week = 2 ^ 44

-- the table with one sheet more of a week, and whether a week is in it, on its words
unfoldable pub counted_in : ℕ → List ℕ → List ℕ
counted_in k [] = (k * week + 1) ∷ []
counted_in k (e ∷ t) =
    let later = counted_in k t in
    cond (ltb k (e / week)) ((k * week + 1) ∷ e ∷ t) (cond (eqb k (e / week)) ((e + 1) ∷ t) (e ∷ later))

unfoldable pub week_in : ℕ → List ℕ → Bool
week_in k [] = false
week_in k (e ∷ t) = eqb k (e / week) || week_in k t

-- the word at a place is that of a week
unfoldable pub is_week_at : ℕ → ℕ → List ℕ → Bool
is_week_at k at t = ltb at (length t) && eqb (get_or t at 0 / week) k

-- a list of packings, ascending, no longer than the longest
pub record Listed (s : List ℕ) : Type 0 where
  pub short : length s ≤ most_words
  pub packings : every is_packing s ≡ true
  pub ascends : ascending s ≡ true

-- there is room for a sheet of a week in a table, on its words
unfoldable pub room_in : ℕ → List ℕ → Bool
room_in k t = not (eqb (length t) table_length) || week_in k t

-- the weeks of some sheets stand over a table
pub record IsTallied (xs before after : List ℕ) (t : Tallied) : Type 0 where
  pub table : after ≡ over (map tally_word (tallies_of xs).weeks) before
  pub weeks : t.weeks ≡ length (tallies_of xs).weeks
  pub left : t.left ≡ (tallies_of xs).left
