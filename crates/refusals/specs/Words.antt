-- The words that quarrel, as a sentence names them: in the order of the text, with what they are where they are numbers.
use Rattle.std.specs.Prelude.{ℕ, ◌+◌, Bool, cond, ◌&&◌, List, [], ◌∷◌, ◌++◌, map, eqb, leb, ltb, length, get_or}
use Rattle.kinds.specs.Kinds.{kinds}
use Rattle.laws.specs.Bytes.{bytes}
use Rattle.lists.specs.Putting.{each}
use Rattle.matching.specs.Extents.{between, nowhere}
use Rattle.matching.specs.declared.extents.Extent.{Extent}
use Rattle.text.specs.Digits.{is_digit}
use Rattle.refusals.specs.Over.{tally}
use Rattle.refusals.specs.Shown.{shown}

-- what stands before a number of each kind, from kind 0, which is none, on: nothing before a year and a day
unfoldable pub labels : List (List ℕ)
labels =
    map bytes
    ("" ∷ "" ∷ "century " ∷ "year in century " ∷ "month " ∷ "" ∷ "day of year " ∷ "weekday "
    ∷ "Sunday week " ∷ "Monday week " ∷ "ISO year " ∷ "ISO year in century " ∷ "ISO week "
    ∷ "hour " ∷ "hour of twelve " ∷ "" ∷ [])

unfoldable pub label : ℕ → List ℕ
label k = get_or labels k []

-- the words at an extent of a text
abbrev pub words_at : List ℕ → Extent → List ℕ
words_at s x = between s x.from x.next

-- what is said of words of a kind: a name stands for itself
unfoldable pub label_before : ℕ → List ℕ → List ℕ
label_before k w = cond (is_digit (get_or w 0 0)) (label k) []

unfoldable pub phrase : ℕ → List ℕ → List ℕ
phrase k w = label_before k w ++ shown w

-- the words of kind k begin at an offset
unfoldable pub begins : List Extent → ℕ → ℕ → Bool
begins xs at k = let x = get_or xs k nowhere in eqb x.from at && ltb x.from x.next

-- words begin at an offset or after it
unfoldable pub begins_from : Extent → ℕ → Bool
begins_from x at = leb at x.from && ltb x.from x.next

-- how many words begin there
unfoldable pub words_from : List Extent → ℕ → ℕ
words_from xs at = tally (λ k. begins_from (get_or xs k nowhere) at) kinds

-- what stands after words, by how many more there are
unfoldable pub separator : ℕ → List ℕ
separator n = cond (eqb n 0) [] (cond (eqb n 1) (bytes " and ") (bytes ", "))

-- the words of kind k, if they begin at an offset
unfoldable pub phrase_at : List Extent → List ℕ → ℕ → ℕ → List ℕ
phrase_at xs s at k =
    let words = phrase k (words_at s (get_or xs k nowhere)) ++ separator (words_from xs (at + 1)) in
    cond (begins xs at k) words []

-- all words, in the order of the text
unfoldable pub word_list : List Extent → List ℕ → List ℕ
word_list xs s = each (λ at. each (phrase_at xs s at) kinds) (length s)
