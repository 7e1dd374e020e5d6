-- Demand 1, and the table of RULES 3: any format, text and fields get a number of the list with its place; a refused writing leaves the
-- buffer untouched, a finished one touches only the bytes it counts; what a row leaves out is unsaid.
use Rattle.std.specs.Prelude.{ℕ, ◌≤◌, ◌<◌, true, List, [], ◌∷◌, ◌≡◌, length, take, drop}
use Rattle.laws.specs.Bytes.{bytes}
use Rattle.laws.specs.Lists.{every}
use Rattle.conversions.specs.Conversions.{among}
use Rattle.format.specs.Opening.{is_byte}
use Rattle.judge.specs.declared.Engine.{Engine}
use Rattle.judge.specs.declared.Engine.TheVariants.{Within}
use Rattle.strftime.specs.Writing.{Outcome}
use Rattle.matching.specs.Steps.{no_forms}
use Rattle.strptime.specs.declared.Reading.{Reading}
use Rattle.demands.specs.Demand.{before_nine}
use Rattle.std.specs.Prelude.{None}

-- a number is one of these
abbrev pub OneOf : List ℕ → ℕ → Type 0
OneOf ns n = among n ns ≡ true

-- a writing's result w, by a format f into a buffer b
pub record WritingRow (f b : List ℕ) (w : Outcome) : Type 0 where
  pub listed : OneOf (0 ∷ 1 ∷ 2 ∷ 3 ∷ 4 ∷ 12 ∷ []) w.answer.number
  -- a refusal changes no byte of the buffer
  pub untouched : (w.answer.number ≡ 0 → ⊥) → w.buffer ≡ b
  -- a finished writing changes none past the count
  pub fits : w.answer.number ≡ 0 → w.answer.place ≤ length b
  pub same_length : length w.buffer ≡ length b
  pub past_the_count : w.answer.number ≡ 0 → drop w.answer.place w.buffer ≡ drop w.answer.place b
  -- places: 0; a field, 1 to 7; an offset of the format, with 12 that of a %s; more bytes than the buffer has
  pub place_1 : w.answer.number ≡ 1 → w.answer.place ≡ 0
  pub place_2 : w.answer.number ≡ 2 → OneOf (1 ∷ 2 ∷ 3 ∷ 4 ∷ 5 ∷ 6 ∷ 7 ∷ []) w.answer.place
  pub place_3 : w.answer.number ≡ 3 → w.answer.place < length f
  pub place_12 : every is_byte f ≡ true → w.answer.number ≡ 12 → take 2 (drop w.answer.place f) ≡ bytes "%s"
  pub place_4 : w.answer.number ≡ 4 → length b < w.answer.place

-- the numbers of a reading
abbrev pub reading_numbers : List ℕ
reading_numbers = 0 ∷ 1 ∷ 3 ∷ 5 ∷ 6 ∷ 7 ∷ 8 ∷ 9 ∷ 10 ∷ 11 ∷ []

-- a reading r of a text s by a format f with an engine e
pub record ReadingRow (e : Engine) (f s : List ℕ) (r : Reading) : Type 0 where
  pub listed : OneOf reading_numbers r.number
  -- nothing is handed out with another number than 0, and nothing is shown with another than 10
  pub no_day : (r.number ≡ 0 → ⊥) → r.day ≡ None
  pub no_hour : (r.number ≡ 0 → ⊥) → r.hour ≡ None
  pub no_minute : (r.number ≡ 0 → ⊥) → r.minute ≡ None
  pub no_second : (r.number ≡ 0 → ⊥) → r.second ≡ None
  pub no_offset : (r.number ≡ 0 → ⊥) → r.offset ≡ None
  pub no_forms_lem : (r.number ≡ 0 → ⊥) → r.forms ≡ no_forms
  pub unshown : (r.number ≡ 10 → ⊥) → r.shown ≡ None
  -- places: 0; an offset of the format; an offset of the text, or its end; the day or the hour; the budget
  pub place_1_5 : OneOf (1 ∷ 5 ∷ []) r.number → r.place ≡ 0
  pub place_3 : r.number ≡ 3 → r.place < length f
  pub place_0_6_7_8 : OneOf (0 ∷ 6 ∷ 7 ∷ 8 ∷ []) r.number → r.place ≤ length s
  pub place_9_10 : OneOf (9 ∷ 10 ∷ []) r.number → OneOf (1 ∷ 2 ∷ []) r.place
  pub place_11 : r.number ≡ 11 → e ≡ Within r.place
  -- days examined: none where the reading was refused before the day was judged; with 11 the budget
  pub none_examined : OneOf before_nine r.number → r.examined ≡ 0
  pub examined_11 : r.number ≡ 11 → r.examined ≡ r.place
