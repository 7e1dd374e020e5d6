-- Lists, their tables and adding, worked out (RULES 11.2 and RULES 11.3), each beside what it must be. The words were put together by
-- shifting each number to the bits that the request lists, outside the code; none is what the code gave.
use Rattle.std.specs.Prelude.{ℕ, ◌-◌, Bool, true, false, List, [], ◌∷◌, ◌++◌, length, replicate}
use Rattle.sheets.specs.Sheets.{fields_from}
use Rattle.sheet_list.specs.Adding.{Held, held, is_held, is_full, Outcome, outcome, adding, adding_words}
use Rattle.sheet_list.specs.Weeks.{table_of}

-- 1934-03-05, the same at hour 7, 1934-03-11, 1934-03-12 and 2010-01-01: a word for each
abbrev w5 : ℕ
w5 = 0x1e38ca0000000000

abbrev w5at7 : ℕ
w5at7 = 0x1e38cb3800000000

abbrev w11 : ℕ
w11 = 0x1e38d60000000000

abbrev w12 : ℕ
w12 = 0x1e38d80000000000

abbrev w2010 : ℕ
w2010 = 0x1f68420000000000

-- the list of RULES 11.2 and its table: four sheets of 1934-W10 and one of 2009-W53
abbrev five : List ℕ
five = w5 ∷ w5at7 ∷ w5at7 ∷ w11 ∷ w2010 ∷ []

abbrev two : List ℕ
two = 0x1e38a00000000004 ∷ 0x1f67500000000001 ∷ []

-- a table's array: 7 is in each word past those that are given; no sheet's word is 7, and no week's
abbrev rows : List ℕ → List ℕ
rows t = t ++ replicate (1024 - length t) 7

-- all words of an array held, with a table
abbrev all : List ℕ → List ℕ → Held
all s t = held s (length s) (rows t) (length t)

unfoldable pub table_cases : List (List ℕ × List ℕ)
table_cases =
    (table_of [], [])
    ∷ (table_of five, two)
    -- Sunday and Monday are two weeks; 1934-12-31 and 1935-01-06 are one, 1935-W01; 9999-12-31 is in 9999-W52, and 0001-01-01 in 0001-W01
    ∷ (table_of (w11 ∷ w12 ∷ []), 0x1e38a00000000001 ∷ 0x1e38b00000000001 ∷ [])
    ∷ (table_of (0x1e3b3e0000000000 ∷ 0x1e3c4c0000000000 ∷ []), 0x1e3c100000000002 ∷ [])
    ∷ (table_of (0x0004420000000000 ∷ 0x9c3f3fbfbf9b3e00 ∷ []), 0x0004100000000001 ∷ 0x9c3f400000000001 ∷ [])
    ∷ []

unfoldable pub held_cases : List (Bool × Bool)
held_cases =
    -- what is past a count is not judged
    (is_held (all five two), true)
    ∷ (is_held (held (five ++ (7 ∷ 7 ∷ [])) 5 (rows two) 2), true)
    ∷ (is_held (held [] 0 (rows []) 0), true)
    -- an array over 65,536 words, a count past its end
    ∷ (is_held (held (replicate 65536 7) 0 (rows []) 0), true)
    ∷ (is_held (held (replicate 65537 7) 0 (rows []) 0), false)
    ∷ (is_held (held five 6 (rows two) 2), false)
    -- a word that is no packing, 0001-01-01 with its lowest bit set, beside its week's table; a list that is not ascending
    ∷ (is_held (all (0x0004420000000000 ∷ []) (0x0004100000000001 ∷ [])), true)
    ∷ (is_held (all (0x0004420000000001 ∷ []) (0x0004100000000001 ∷ [])), false)
    ∷ (is_held (all (w5 ∷ w5at7 ∷ w11 ∷ w5at7 ∷ w2010 ∷ []) two), false)
    -- a table's array of another length, a count past its end
    ∷ (is_held (held [] 0 (replicate 1023 7) 0), false)
    ∷ (is_held (held [] 0 (replicate 1025 7) 0), false)
    ∷ (is_held (held five 5 (rows two) 1025), false)
    -- a table one entry short, one too long, with a week's sheets in two, out of order, or with another number
    ∷ (is_held (held five 5 (rows two) 1), false)
    ∷ (is_held (held five 5 (rows two) 3), false)
    ∷ (is_held (all five (0x1e38a00000000003 ∷ 0x1e38a00000000001 ∷ 0x1f67500000000001 ∷ [])), false)
    ∷ (is_held (all five (0x1f67500000000001 ∷ 0x1e38a00000000004 ∷ [])), false)
    ∷ (is_held (all five (0x1e38a00000000005 ∷ 0x1f67500000000001 ∷ [])), false)
    ∷ (is_held (all [] (0x1e38a00000000000 ∷ [])), false)
    ∷ []

-- full: the array, or 1,024 weeks and not the sheet's
unfoldable pub full_cases : List (Bool × Bool)
full_cases =
    (is_full w11 (held five 5 (rows two) 2), true)
    ∷ (is_full w12 (held five 4 (rows two) 1023), false)
    ∷ (is_full w12 (held five 4 (rows two) 1024), true)
    ∷ (is_full w11 (held five 4 (rows two) 1024), false)
    ∷ (is_full w2010 (held five 4 (rows two) 1024), true)
    ∷ []

-- Adding is worked out in January of year 1, whose days are quickly counted: 0001-01-01, the same at hour 7, 01-07 and 01-08, a Monday
abbrev jan1 : ℕ
jan1 = 0x0004420000000000

abbrev jan1at7 : ℕ
jan1at7 = 0x0004433800000000

abbrev jan7 : ℕ
jan7 = 0x00044e0000000000

abbrev jan8 : ℕ
jan8 = 0x0004500000000000

-- two sheets of 0001-W01, in an array of four words
abbrev pair : Held
pair = held (jan1 ∷ jan7 ∷ 7 ∷ 7 ∷ []) 2 (rows (0x0004100000000002 ∷ [])) 1

-- no list: 7 is no packing; and a full array
abbrev none : Held
none = held (7 ∷ []) 1 (rows []) 0

abbrev one : Held
one = all (jan1 ∷ []) (0x0004100000000001 ∷ [])

unfoldable pub adding_cases : List (Outcome × Outcome)
adding_cases =
    -- 13, then 2, then 15, then 14, each where all later ones would be answered too; the index stays
    (adding 3 (fields_from 0 0 0 1 24 0 0 0 0 0 0) none, outcome 13 0 3 none)
    ∷ (adding 3 (fields_from 1 1 1 1 24 0 0 0 0 0 0) none, outcome 2 4 3 none)
    ∷ (adding 3 (fields_from 1 2 29 1 24 0 0 0 0 0 0) none, outcome 2 3 3 none)
    ∷ (adding 3 (fields_from 1 1 1 0 0 0 0 0 0 1 1440) none, outcome 2 7 3 none)
    ∷ (adding 3 (fields_from 1 1 1 0 0 0 0 0 0 0 0) none, outcome 15 0 3 none)
    ∷ (adding 3 (fields_from 1 1 1 0 0 0 0 0 0 0 0) one, outcome 14 0 3 one)
    -- before all, between two, and after them with a week of its own; what is past the new counts stays
    ∷ (
      adding 3 (fields_from 1 1 1 0 0 0 0 0 0 0 0) pair,
      outcome 0 0 4 (held (jan1 ∷ jan1 ∷ jan7 ∷ 7 ∷ []) 3 (rows (0x0004100000000003 ∷ [])) 1),
    )
    ∷ (
      adding 3 (fields_from 1 1 1 1 7 0 0 0 0 0 0) pair,
      outcome 0 0 4 (held (jan1 ∷ jan1at7 ∷ jan7 ∷ 7 ∷ []) 3 (rows (0x0004100000000003 ∷ [])) 1),
    )
    ∷ (
      adding 3 (fields_from 1 1 8 0 0 0 0 0 0 0 0) pair,
      outcome 0 0 4 (held (jan1 ∷ jan7 ∷ jan8 ∷ 7 ∷ []) 3 (rows (0x0004100000000002 ∷ 0x0004200000000001 ∷ [])) 2),
    )
    ∷ []

-- eleven words of a sheet: 0001-01-08, 0001-01-01, and 0001-01-01 at minute 60
abbrev s8 : List ℕ
s8 = 1 ∷ 1 ∷ 8 ∷ replicate 8 0

abbrev s1 : List ℕ
s1 = 1 ∷ 1 ∷ 1 ∷ replicate 8 0

abbrev bad : List ℕ
bad = 1 ∷ 1 ∷ 1 ∷ 0 ∷ 0 ∷ 1 ∷ 60 ∷ 0 ∷ 0 ∷ 0 ∷ 0 ∷ []

-- an empty list, and the first two sheets added to it
abbrev empty : Held
empty = held (7 ∷ 7 ∷ 7 ∷ []) 0 (rows []) 0

abbrev both : Held
both = held (jan1 ∷ jan8 ∷ 7 ∷ []) 2 (rows (0x0004100000000001 ∷ 0x0004200000000001 ∷ [])) 2

unfoldable pub many_cases : List (Outcome × Outcome)
many_cases =
    -- with no sheet, and with less than one, nothing is judged
    (adding_words [] none, outcome 0 0 0 none)
    ∷ (adding_words (replicate 10 1) none, outcome 0 0 0 none)
    ∷ (adding_words s1 none, outcome 15 0 0 none)
    -- two; ten words that are left over; two and a third that is refused, by 2 or by 13: they stay added, and a fourth is not
    ∷ (adding_words (s8 ++ s1) empty, outcome 0 0 2 both)
    ∷ (adding_words (s8 ++ s1 ++ replicate 10 1) empty, outcome 0 0 2 both)
    ∷ (adding_words (s8 ++ s1 ++ bad ++ s8) empty, outcome 2 5 2 both)
    ∷ (adding_words (s8 ++ s1 ++ replicate 11 0 ++ s8) empty, outcome 13 0 2 both)
    -- the array is full after the first
    ∷ (adding_words (s1 ++ s8) (held (7 ∷ []) 0 (rows []) 0), outcome 14 0 1 one)
    ∷ []
