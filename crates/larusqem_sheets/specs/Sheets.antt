-- Sheets for C (RULES 10.4). A sheet has eleven words: year, month and day, all 0 where the day is unsaid; then hour, minute, second and
-- zone offset, each with a word before it that says whether it is said. What is unsaid is 0, and an offset is in two's complement.
use Rattle.std.specs.Prelude.{ℕ, ◌+◌, ◌*◌, ◌^◌, cond, List, [], ◌∷◌, get_or, replicate}
use Rattle.sheets.specs.Packing.{unpacked}
use Rattle.sheets.specs.Sheets.{words_fields}
use Rattle.sheets.specs.declared.Sheet.{Sheet}
use Rattle.sheets.specs.declared.SheetFields.{SheetFields}
use Rattle.sheet_list.specs.Adding.{Held, held, is_held, Outcome}
use Rattle.words.specs.Words.{flag, number_or0, offset_flag, offset_word}
use Rattle.std.specs.Prelude.{Err, None, Ok, Option, Result, Some}
use Rattle.values.specs.Moments.{field_number}
use Rattle.sheets.specs.declared.Unpackable.TheVariants.{Bad, NoDay}
use Rattle.sheets.specs.declared.Unpackable.{Unpackable}

-- what the words of a sheet say
abbrev pub fields_of : List ℕ → SheetFields
fields_of ws = words_fields ws

-- the words of a sheet
unfoldable pub words_of : Sheet → List ℕ
words_of s =
    s.date.year ∷ s.date.month ∷ s.date.day
    ∷ flag s.hour ∷ number_or0 s.hour
    ∷ flag s.minute ∷ number_or0 s.minute
    ∷ flag s.second ∷ number_or0 s.second
    ∷ offset_flag s.offset ∷ offset_word s.offset
    ∷ []

-- what unpacking gives: 1 and the sheet's words, or 0 and eleven zeros
unfoldable pub unpacked_number : Option Sheet → ℕ
unpacked_number (Some s) = 1
unpacked_number None = 0

unfoldable pub unpacked_words : Option Sheet → List ℕ
unpacked_words (Some s) = words_of s
unpacked_words None = replicate 11 0

-- what packing gives: number * 2^32 + place, and the word, which is 0 where there is none
unfoldable pub packed_number : Result ℕ Unpackable → ℕ
packed_number (Ok x) = 0
packed_number (Err NoDay) = 13 * 2 ^ 32
packed_number (Err (Bad p)) = 2 * 2 ^ 32 + field_number p

unfoldable pub packed_word : Result ℕ Unpackable → ℕ
packed_word (Ok x) = x
packed_word (Err NoDay) = 0
packed_word (Err (Bad p)) = 0

-- the fields of a week's word: ISO year 14 bits, week 6, sheets 44
unfoldable pub week_fields : ℕ → List ℕ
week_fields x = unpacked (14 ∷ 6 ∷ 44 ∷ []) x

-- arrays with their counts, sheets and weeks held, in two words
abbrev pub held_by : List ℕ → List ℕ → List ℕ → Held
held_by w t counts = held w (get_or counts 0 0) t (get_or counts 1 0)

-- 0, or 15 where the arrays do not hold what they should
unfoldable pub judged : Held → ℕ
judged h = cond (is_held h) 0 15

-- the words of what adding gives: the counts; number, place and index
abbrev pub counts_of : Outcome → List ℕ
counts_of o = o.held.count ∷ o.held.weeks ∷ []

abbrev pub answer_of : Outcome → List ℕ
answer_of o = o.number ∷ o.place ∷ o.index ∷ []
