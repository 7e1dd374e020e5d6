-- What is owed of lists of sheets and their tables (RULES 11.2 and RULES 11.3), as statements about the definitions; the proofs are in
-- proofs/Rules.antt.
use Rattle.std.specs.Prelude.{ℕ, zero, suc, ◌+◌, ◌≤◌, ◌<◌, Bool, true, false, cond, List, [], ◌∷◌, ◌≡◌, eqb, drop}
use Rattle.sheets.specs.Packing.{packed}
use Rattle.sheets.specs.Sheets.{week_of, week_of_date, packing}
use Rattle.sheets.specs.declared.SheetFields.{SheetFields}
use Rattle.calendar.specs.Calendar.{iso_year, iso_week}
use Rattle.calendar.specs.declared.Date.{Date}
use Rattle.values.specs.Values.{day_number_of}
use Rattle.sheet_list.specs.Adding.{Held, list_of, is_held, is_full, with, Outcome, outcome, adding, adding_all}
use Rattle.sheet_list.specs.Ascending.{ascending, inserted}
use Rattle.sheet_list.specs.Weeks.{Tally, tally, weeks_of, tally_word}
use Rattle.std.specs.Prelude.{Err, Ok}
use Rattle.values.specs.Moments.{field_number}
use Rattle.values.specs.declared.fields.Field.{Field}
use Rattle.sheets.specs.declared.Unpackable.TheVariants.{Bad, NoDay}

-- how many words of a list pass a test
unfoldable pub how_many : (ℕ → Bool) → List ℕ → ℕ
how_many p [] = 0
how_many p (x ∷ s) = let more = how_many p s in cond (p x) (suc more) more

-- how often a word is held, and how many words are of a week
abbrev pub times : ℕ → List ℕ → ℕ
times x s = how_many (λ y. eqb y x) s

abbrev pub of_week : ℕ → List ℕ → ℕ
of_week k s = how_many (λ y. eqb (week_of y) k) s

-- how many sheets a table has for a week
unfoldable pub sheets_for : ℕ → List Tally → ℕ
sheets_for k [] = 0
sheets_for k (t ∷ ts) = let more = sheets_for k ts in cond (eqb t.week k) (t.sheets + more) more

-- weeks rise, each once, and each has a sheet
unfoldable pub Rising : ℕ → List Tally → Type 0
Rising low [] = Unit
Rising low (t ∷ ts) = (low ≤ t.week) × (0 < t.sheets) × Rising (suc t.week) ts

pub record ListRules : Type 0 where
  -- adding keeps every word held and puts in the sheet's own once more, and nothing else
  pub kept : (x y : ℕ) (s : List ℕ) → times y (inserted x s) ≡ times y s + cond (eqb x y) 1 0
  -- the list stays ascending
  pub ascends : (x : ℕ) (s : List ℕ) → ascending s ≡ true → ascending (inserted x s) ≡ true
  -- the table has each week that has sheets, in order, with as many as the list has
  pub in_order : (s : List ℕ) → Rising 0 (weeks_of s)
  pub counts : (k : ℕ) (s : List ℕ) → sheets_for k (weeks_of s) ≡ of_week k s
  -- a word of the table: ISO year 14 bits, week 6, sheets 44
  pub bits : (t : Date) (n : ℕ)
      → tally_word (tally (week_of_date t) n)
      ≡ packed (14 ∷ 6 ∷ 44 ∷ []) (iso_year (day_number_of t) ∷ iso_week (day_number_of t) ∷ n ∷ [])

-- past the new counts nothing is changed
pub record Past (h g : Held) : Type 0 where
  pub words : drop g.count g.words ≡ drop g.count h.words
  pub table : drop g.weeks g.table ≡ drop g.weeks h.table

-- the sheets before one were added one after another, and that one is refused
unfoldable pub held_before : (ℕ → SheetFields) → ℕ → ℕ → Held → Held
held_before sheet i zero h = h
held_before sheet i (suc k) h = held_before sheet (suc i) k (adding i (sheet i) h).held

pub record Stopped (sheet : ℕ → SheetFields) (i n : ℕ) (h : Held) (o : Outcome) : Type 0 where
  pub before : ℕ
  pub among : before < n
  pub index : o.index ≡ i + before
  pub refusal : o ≡ adding (i + before) (sheet (i + before)) (held_before sheet i before h)

-- what becomes of a sheet
pub record AddRules : Type 0 where
  -- 13, 2, 15 and 14, each exactly in its case, with its place and the sheet's index; all leave both arrays and both counts
  pub undated : (i : ℕ) (f : SheetFields) (h : Held) → packing f ≡ Err NoDay → adding i f h ≡ outcome 13 0 i h
  pub bad : (i : ℕ) (p : Field) (f : SheetFields) (h : Held) → packing f ≡ Err (Bad p) → adding i f h ≡ outcome 2 (field_number p) i h
  pub unheld : (i x : ℕ) (f : SheetFields) (h : Held) → packing f ≡ Ok x → is_held h ≡ false
      → adding i f h ≡ outcome 15 0 i h
  pub full : (i x : ℕ) (f : SheetFields) (h : Held) → packing f ≡ Ok x → is_held h ≡ true → is_full x h ≡ true
      → adding i f h ≡ outcome 14 0 i h
  pub added : (i x : ℕ) (f : SheetFields) (h : Held) → packing f ≡ Ok x → is_held h ≡ true → is_full x h ≡ false
      → adding i f h ≡ outcome 0 0 (suc i) (with x h)
  -- what is added holds again, with its list and table, and leaves the words past the new counts
  pub holds : (i : ℕ) (f : SheetFields) (h : Held) → (adding i f h).number ≡ 0 → is_held (adding i f h).held ≡ true
  pub list : (i x : ℕ) (f : SheetFields) (h : Held) → packing f ≡ Ok x → (adding i f h).number ≡ 0
      → list_of (adding i f h).held ≡ inserted x (list_of h)
  pub past : (i : ℕ) (f : SheetFields) (h : Held) → Past h (adding i f h).held
  -- of many sheets, where none is refused the index is how many there were; else it is that of one of them, whose refusal is the answer
  pub all : (sheet : ℕ → SheetFields) (i n : ℕ) (h : Held) → (adding_all sheet i n h).number ≡ 0
      → (adding_all sheet i n h).index ≡ i + n
  pub first : (sheet : ℕ → SheetFields) (i n : ℕ) (h : Held) → ((adding_all sheet i n h).number ≡ 0 → ⊥)
      → Stopped sheet i n h (adding_all sheet i n h)
