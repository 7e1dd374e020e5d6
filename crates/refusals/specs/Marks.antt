-- The line of marks below a text.
use Prim.Native.Char.{code}
use Rattle.std.specs.Prelude.{ℕ, ◌+◌, Bool, cond, ◌&&◌, List, [], ◌∷◌, ◌++◌, eqb, leb, ltb, get_or}
use Rattle.conversions.specs.Conversions.{among}
use Rattle.kinds.specs.Kinds.{kinds}
use Rattle.laws.specs.Bytes.{bytes}
use Rattle.lists.specs.Putting.{each}
use Rattle.matching.specs.Extents.{extent, nowhere}
use Rattle.matching.specs.declared.extents.Extent.{Extent}
use Rattle.strptime.specs.declared.Reading.{Reading}
use Rattle.refusals.specs.Over.{some, most}

-- what is marked: the place of 6, 7 and 8, at 0, which is no kind, or the words that a reason names, by kind
unfoldable pub marked : Reading → List Extent → List Extent
marked r words = cond (among r.number (6 ∷ 7 ∷ 8 ∷ [])) (extent r.place (r.place + 1) ∷ []) words

-- an offset lies in an extent
unfoldable pub covers : Extent → ℕ → Bool
covers x i = leb x.from i && ltb i x.next

-- in one of some extents
unfoldable pub is_marked : List Extent → ℕ → Bool
is_marked xs i = some (λ k. covers (get_or xs k nowhere) i) kinds

-- where the last of them ends
unfoldable pub last_mark : List Extent → ℕ
last_mark xs = most (λ k. (get_or xs k nowhere).next) kinds

-- ^ under a byte that is marked, and a blank under any other
unfoldable pub mark_at : List Extent → ℕ → ℕ
mark_at xs i = cond (is_marked xs i) (code "^") (code " ")

-- up to the last mark; no line where nothing is marked
abbrev pub marks_to : List Extent → ℕ → List ℕ
marks_to xs n = each (λ i. mark_at xs i ∷ []) n

unfoldable pub marks_line : List Extent → List ℕ
marks_line xs = cond (eqb (last_mark xs) 0) [] (marks_to xs (last_mark xs) ++ bytes "\n")
