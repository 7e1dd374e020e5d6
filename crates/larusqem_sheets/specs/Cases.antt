-- Sheets and lists in the words of C worked out (RULES 10.4), each beside what it must be. The words were put together by shifting each
-- number to the bits that the request lists, outside the code; none is what the code gave.
use Rattle.std.specs.Prelude.{ℕ, List, [], ◌∷◌, replicate}
use Rattle.sheets.specs.Sheets.{packing, unpacking}
use Rattle.sheet_list.specs.Adding.{held, outcome}
use Rattle.larusqem_sheets.specs.Sheets.{fields_of, unpacked_number, unpacked_words, packed_number, packed_word}
use Rattle.larusqem_sheets.specs.Sheets.{week_fields, held_by, judged, counts_of, answer_of}

-- what a function returns and then leaves, and what they must be
abbrev pub Case : Type 0
Case = List ℕ × List ℕ

-- number * 2^32 + place, and the word
abbrev packs : List ℕ → List ℕ
packs ws = packed_number (packing (fields_of ws)) ∷ packed_word (packing (fields_of ws)) ∷ []

unfoldable pub pack_cases : List Case
pack_cases =
    -- 1934-03-05 07:08:09 -0030, and 1934-03-05 with numbers that are not said
    (packs (1934 ∷ 3 ∷ 5 ∷ 1 ∷ 7 ∷ 1 ∷ 8 ∷ 1 ∷ 9 ∷ 1 ∷ 4294967266 ∷ []), 0 ∷ 0x1e38cb3c89358100 ∷ [])
    ∷ (packs (1934 ∷ 3 ∷ 5 ∷ 0 ∷ 99 ∷ 0 ∷ 99 ∷ 0 ∷ 99 ∷ 0 ∷ 99999 ∷ []), 0 ∷ 0x1e38ca0000000000 ∷ [])
    -- 13, and 2 at each of its places
    ∷ (packs (0 ∷ 0 ∷ 0 ∷ 1 ∷ 24 ∷ 0 ∷ 0 ∷ 0 ∷ 0 ∷ 0 ∷ 0 ∷ []), 0x0000000d00000000 ∷ 0 ∷ [])
    ∷ (packs (0 ∷ 3 ∷ 5 ∷ 0 ∷ 0 ∷ 0 ∷ 0 ∷ 0 ∷ 0 ∷ 0 ∷ 0 ∷ []), 0x0000000200000001 ∷ 0 ∷ [])
    ∷ (packs (1934 ∷ 0 ∷ 0 ∷ 0 ∷ 0 ∷ 0 ∷ 0 ∷ 0 ∷ 0 ∷ 0 ∷ 0 ∷ []), 0x0000000200000002 ∷ 0 ∷ [])
    ∷ (packs (1934 ∷ 2 ∷ 29 ∷ 0 ∷ 0 ∷ 0 ∷ 0 ∷ 0 ∷ 0 ∷ 0 ∷ 0 ∷ []), 0x0000000200000003 ∷ 0 ∷ [])
    ∷ (packs (1934 ∷ 3 ∷ 5 ∷ 1 ∷ 24 ∷ 0 ∷ 0 ∷ 0 ∷ 0 ∷ 0 ∷ 0 ∷ []), 0x0000000200000004 ∷ 0 ∷ [])
    ∷ (packs (1934 ∷ 3 ∷ 5 ∷ 0 ∷ 0 ∷ 1 ∷ 60 ∷ 0 ∷ 0 ∷ 0 ∷ 0 ∷ []), 0x0000000200000005 ∷ 0 ∷ [])
    ∷ (packs (1934 ∷ 3 ∷ 5 ∷ 0 ∷ 0 ∷ 0 ∷ 0 ∷ 1 ∷ 61 ∷ 0 ∷ 0 ∷ []), 0x0000000200000006 ∷ 0 ∷ [])
    ∷ (packs (1934 ∷ 3 ∷ 5 ∷ 0 ∷ 0 ∷ 0 ∷ 0 ∷ 0 ∷ 0 ∷ 1 ∷ 1440 ∷ []), 0x0000000200000007 ∷ 0 ∷ [])
    ∷ []

-- whether a word is a packing, and the sheet's words
abbrev unpacks : ℕ → List ℕ
unpacks x = unpacked_number (unpacking x) ∷ unpacked_words (unpacking x)

unfoldable pub unpack_cases : List Case
unpack_cases =
    (unpacks 0x1e38cb3c89358100, 1 ∷ 1934 ∷ 3 ∷ 5 ∷ 1 ∷ 7 ∷ 1 ∷ 8 ∷ 1 ∷ 9 ∷ 1 ∷ 4294967266 ∷ [])
    ∷ (unpacks 0x1e38cb0000000000, 1 ∷ 1934 ∷ 3 ∷ 5 ∷ 1 ∷ 0 ∷ 0 ∷ 0 ∷ 0 ∷ 0 ∷ 0 ∷ 0 ∷ [])
    ∷ (unpacks 0x1e38ca0009200000, 1 ∷ 1934 ∷ 3 ∷ 5 ∷ 0 ∷ 0 ∷ 0 ∷ 0 ∷ 1 ∷ 9 ∷ 0 ∷ 0 ∷ [])
    -- the lowest bit is none of a packing's
    ∷ (unpacks 0x1e38cb0000000001, replicate 12 0)
    ∷ []

-- ISO year, week and sheets: of 1934-W10 with 3 sheets, and of the highest number in each
unfoldable pub week_cases : List Case
week_cases =
    (week_fields 0x1e38a00000000003, 1934 ∷ 10 ∷ 3 ∷ [])
    ∷ (week_fields 0xffffffffffffffff, 16383 ∷ 63 ∷ 17592186044415 ∷ [])
    ∷ []

-- the two counts, and number, place and index, of what adding gave: 14 with the place 5 and the index 6, 2 sheets and 3 weeks held
unfoldable pub answer_cases : List Case
answer_cases =
    (counts_of (outcome 14 5 6 (held [] 2 [] 3)), 2 ∷ 3 ∷ [])
    ∷ (answer_of (outcome 14 5 6 (held [] 2 [] 3)), 14 ∷ 5 ∷ 6 ∷ [])
    ∷ []

-- a table of 1,024 words in which those that are given come first
abbrev rows : ℕ → List ℕ
rows x = x ∷ replicate 1023 7

-- the array of 0001-01-01 twice and another word, and the table of 0001-W01 with two sheets; the counts are sheets, then weeks
abbrev judges : ℕ → ℕ → ℕ
judges c k = judged (held_by (0x0004420000000000 ∷ 0x0004420000000000 ∷ 7 ∷ []) (rows 0x0004100000000002) (c ∷ k ∷ []))

unfoldable pub judged_cases : List (ℕ × ℕ)
judged_cases =
    (judges 0 0, 0)
    ∷ (judges 2 1, 0)
    ∷ (judges 1 2, 15)
    ∷ (judges 1 1, 15)
    ∷ (judges 2 0, 15)
    ∷ (judges 3 1, 15)
    ∷ []
