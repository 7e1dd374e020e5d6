-- What is written for a text, and for a whole list.
use Rattle.std.specs.Prelude.{ℕ, suc, cond, List, [], ◌∷◌, ◌++◌, eqb, leb, length, take, drop}
use Rattle.judge.specs.declared.Engine.TheVariants.{Skipping}
use Rattle.laws.specs.Bytes.{bytes}
use Rattle.lists.specs.Answers.{opened_reading, opened_elements}
use Rattle.lists.specs.Lines.{newline, lines, longest_input, on_lines}
use Rattle.matching.specs.declared.extents.Extent.{Extent}
use Rattle.reasons.specs.Reasons.{explained, explained_by}
use Rattle.strptime.specs.Answers.{reading}
use Rattle.strptime.specs.declared.Reading.{Reading}
use Rattle.text.specs.Digits.{plain}
use Rattle.refusals.specs.Marks.{marked, marks_line}
use Rattle.refusals.specs.Sentences.{sentence}
use Rattle.refusals.specs.Shown.{shown}
use Rattle.std.specs.Prelude.{Result}
use Rattle.format.specs.declared.opening.Unopened.{Unopened}

-- a text that is refused, on line n of its list: the text, the marks, a sentence, and an empty line; nothing for a text that was read
unfoldable pub block : ℕ → Reading → List Extent → List ℕ → List ℕ
block n r words s =
    cond (eqb r.number 0) []
    (shown s
    ++ (bytes "\n"
    ++ (marks_line (marked r words) ++ (bytes "line " ++ (plain n ++ (bytes ": " ++ (sentence r words s ++ bytes "\n\n")))))))

-- what is written for texts, of which the first is on line n
unfoldable pub blocks : (ℕ → List ℕ → List ℕ) → ℕ → List (List ℕ) → List ℕ
blocks f n [] = []
blocks f n (t ∷ ts) = f n t ++ blocks f (suc n) ts

-- a text by a format
unfoldable pub block_by : List ℕ → ℕ → List ℕ → List ℕ
block_by f n s = block n (reading f s) (explained_by Skipping f s).words s

-- the first line is the format, and each other one a text
unfoldable pub refusals_on : List (List ℕ) → List ℕ
refusals_on [] = []
refusals_on (f ∷ ts) = blocks (block_by f) 2 ts

-- on an input
unfoldable pub refusals_of : List ℕ → List ℕ
refusals_of s = on_lines refusals_on s

-- how many newlines some bytes have
unfoldable pub newlines : List ℕ → ℕ
newlines [] = 0
newlines (b ∷ s) = let more = newlines s in cond (eqb b newline) (suc more) more

-- the number of the line that begins at a place of an input
unfoldable pub line_number : List ℕ → ℕ → ℕ
line_number s at = suc (newlines (take at s))

-- a text by what opening the format answered and stored
unfoldable pub opened_block : Result ℕ Unopened → List ℕ → ℕ → List ℕ → List ℕ
opened_block o es n s =
    let r = opened_reading o es s in
    block n r (explained r (opened_elements o es) s).words s

-- what is written for the texts of an input from a place on; nothing where the input is too long
unfoldable pub blocks_by : Result ℕ Unopened → List ℕ → List ℕ → ℕ → List ℕ
blocks_by o es s from =
    let all = blocks (opened_block o es) (line_number s from) (lines (drop from s)) in
    cond (leb (length s) longest_input) all []
