-- Adding sheets to a list and its table of weeks, each in a lent array with a count (RULES 11.2 and RULES 11.3).
use Rattle.std.specs.Prelude.{ℕ, zero, suc, ◌+◌, ◌*◌, ◌/◌, Bool, true, false, cond, not, ◌&&◌, ◌||◌, List, [], ◌∷◌, ◌++◌, eqb, leb}
use Rattle.std.specs.Prelude.{length, get_or, take, drop}
use Rattle.laws.specs.Lists.{every}
use Rattle.sheets.specs.Sheets.{is_packing, week_of, packing, fields_from}
use Rattle.sheets.specs.declared.SheetFields.{SheetFields}
use Rattle.sheet_list.specs.declared.adding.AddRefusal.{AddRefusal}
use Rattle.sheet_list.specs.declared.adding.AddRefusal.TheVariants.{BadField, Undated, NoRoom, NotHeld}
use Rattle.sheet_list.specs.declared.adding.Added.{Added}
use Rattle.values.specs.Moments.{field_number}
use Rattle.sheet_list.specs.Ascending.{ascending, inserted}
use Rattle.sheet_list.specs.Weeks.{weeks_of, table_of, has_week}
use Rattle.std.specs.Prelude.{Err, None, Ok, Option, Result, Some}
use Rattle.sheets.specs.declared.Unpackable.TheVariants.{Bad, NoDay}
use Rattle.sheets.specs.declared.Unpackable.{Unpackable}

-- the lent arrays, and how many words of each are held; words past a count are no part of list or table
pub record Held : Type 0 where
  pub words : List ℕ
  pub count : ℕ
  pub table : List ℕ
  pub weeks : ℕ

abbrev pub held : List ℕ → ℕ → List ℕ → ℕ → Held
held w c t k = record { words = w; count = c; table = t; weeks = k }

-- the words of the list
abbrev pub list_of : Held → List ℕ
list_of h = take h.count h.words

-- the most words of the list's array, and how many those of the table are
abbrev pub most_words : ℕ
most_words = 65536

abbrev pub table_length : ℕ
table_length = 1024

-- two lists are the same
unfoldable pub same : List ℕ → List ℕ → Bool
same [] [] = true
same [] (y ∷ t) = false
same (x ∷ s) [] = false
same (x ∷ s) (y ∷ t) = eqb x y && same s t

-- 15 is where this is not so: the array has at most 65,536 words and the count lies in it, each word is a packing, the list is ascending;
-- the table has 1,024 words and its count lies in it, and it is as the list gives
unfoldable pub is_held : Held → Bool
is_held h =
    leb (length h.words) most_words
    && (leb h.count (length h.words)
    && (eqb (length h.table) table_length
    && (leb h.weeks (length h.table)
    && (every is_packing (list_of h)
    && (ascending (list_of h)
    && same (take h.weeks h.table) (table_of (list_of h)))))))

-- 14: the array is full, or 1,024 weeks are held and the sheet's is not among them
unfoldable pub is_full : ℕ → Held → Bool
is_full x h =
    eqb h.count (length h.words)
    || (eqb h.weeks table_length && not (has_week (week_of x) (weeks_of (list_of h))))

-- a list over the front of an array, the words after it as they were
unfoldable pub over : List ℕ → List ℕ → List ℕ
over s array = s ++ drop (length s) array

-- with the word of one sheet more: every word held is kept, and the table is worked out afresh
unfoldable pub with : ℕ → Held → Held
with x h =
    let list = inserted x (list_of h) in
    record {
      words = over list h.words;
      count = length list;
      table = over (table_of list) h.table;
      weeks = length (table_of list);
    }

-- what adding gives: number and place, how many sheets were added before it ended, and what is then held
pub record Outcome : Type 0 where
  pub number : ℕ
  pub place : ℕ
  pub index : ℕ
  pub held : Held

abbrev pub outcome : ℕ → ℕ → ℕ → Held → Outcome
outcome n p i h = record { number = n; place = p; index = i; held = h }

-- ---- one sheet

-- 15, then 14
unfoldable pub adding_word : ℕ → ℕ → Held → Outcome
adding_word i x h = cond (is_held h) (cond (is_full x h) (outcome 14 0 i h) (outcome 0 0 (suc i) (with x h))) (outcome 15 0 i h)

-- 13, then 2, then these
unfoldable pub adding_packed : ℕ → Result ℕ Unpackable → Held → Outcome
adding_packed i (Err NoDay) h = outcome 13 0 i h
adding_packed i (Err (Bad p)) h = outcome 2 (field_number p) i h
adding_packed i (Ok x) h = adding_word i x h

-- the sheet with index i: where it is added the next index is i + 1, and where it is refused all is left as it was
unfoldable pub adding : ℕ → SheetFields → Held → Outcome
adding i f h = adding_packed i (packing f) h

-- the number and place of each refusal, and 0 where a call ended without one
unfoldable pub number_of : Option AddRefusal → ℕ
number_of None = 0
number_of (Some (BadField p)) = 2
number_of (Some Undated) = 13
number_of (Some NoRoom) = 14
number_of (Some NotHeld) = 15

unfoldable pub place_of : Option AddRefusal → ℕ
place_of None = 0
place_of (Some (BadField p)) = field_number p
place_of (Some Undated) = 0
place_of (Some NoRoom) = 0
place_of (Some NotHeld) = 0

-- what a call answered, with what the arrays then held
abbrev pub outcome_of : Added → List ℕ → List ℕ → Outcome
outcome_of r w t = outcome (number_of r.refused) (place_of r.refused) r.index (held w r.count t r.weeks)

-- ---- many sheets, one after another, up to the first refusal: n of them, from index i on
unfoldable pub adding_all : (ℕ → SheetFields) → ℕ → ℕ → Held → Outcome
adding_all sheet i zero h = outcome 0 0 i h
adding_all sheet i (suc n) h =
    let one = adding i (sheet i) h in
    let more = adding_all sheet (suc i) n one.held in
    cond (eqb one.number 0) more one

-- sheets as words, eleven each (RULES 10.4)
abbrev pub sheet_words : ℕ
sheet_words = 11

-- the sheet with an index
unfoldable pub sheet_at : List ℕ → ℕ → SheetFields
sheet_at ws i =
    let w : ℕ → ℕ = λ j. get_or ws (sheet_words * i + j) 0 in
    fields_from (w 0) (w 1) (w 2) (w 3) (w 4) (w 5) (w 6) (w 7) (w 8) (w 9) (w 10)

-- all of them; words that are left over are no sheet
unfoldable pub adding_words : List ℕ → Held → Outcome
adding_words ws h = adding_all (sheet_at ws) 0 (length ws / sheet_words) h
