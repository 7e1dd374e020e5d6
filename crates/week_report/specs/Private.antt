-- What the code passes through on the way: no part of a promise of the crate.
use Rattle.std.specs.Prelude.{ℕ, suc, ◌+◌, ◌/◌, ◌%◌, ◌^◌, ◌<◌, ◌≤◌, List, [], ◌∷◌, ◌++◌, ◌≡◌, length, get_or, set, drop}
use Rattle.std.proofs.lemmas.List.Edits.{sets}
use Rattle.lists.specs.Answers.{opened_reading}
use Rattle.lists.specs.Lines.{lines}
use Rattle.lists.specs.Putting.{each}
use Rattle.sheet_list.specs.Weeks.{Tally, tally}
use Rattle.week_report.specs.Texts.{Gives, sheet_in, out_in, sheets_of, outs_of}
use Rattle.week_report.specs.Weeks.{total_line, number_line, week_line}
use Rattle.std.specs.Prelude.{Result}
use Rattle.format.specs.declared.opening.Unopened.{Unopened}

-- counts by number, with some numbers more
unfoldable pub tallied : List ℕ → List ℕ → List ℕ
tallied [] c = c
tallied (n ∷ ns) c = tallied ns (set c n (suc (get_or c n 0)))

unfoldable pub sum_of : List ℕ → ℕ
sum_of [] = 0
sum_of (n ∷ ns) = n + sum_of ns

-- the lines of counts by number
unfoldable pub numbers_shown : List ℕ → List ℕ
numbers_shown c = each (λ k. number_line k (get_or c k 0)) (length c)

unfoldable pub left_shown : List ℕ → List ℕ
left_shown c = total_line (sum_of c) ++ numbers_shown c

-- the week and the sheets of a word of the table
unfoldable pub tally_of : ℕ → Tally
tally_of x = tally (x / 2 ^ 44) (x % 2 ^ 44)

-- the lines of the words of a table
unfoldable pub table_shown : List ℕ → List ℕ
table_shown t = each (λ j. week_line (tally_of (get_or t j 0))) (length t)

-- the sheets of each word of a table are few
abbrev pub Small : List ℕ → Type 0
Small t = (j : ℕ) → get_or t j 0 % 2 ^ 44 < 2 ^ 32

-- what one text gives is stored behind n sheets, or counted
pub record Took (g : Gives) (words : List ℕ) (n : ℕ) (words' counts counts' : List ℕ) (r : ℕ) : Type 0 where
  pub ends : r ≡ n + length (sheet_in g)
  pub sheets : words' ≡ sets words n (sheet_in g)
  pub outs : counts' ≡ tallied (out_in g) counts

-- what the texts of an input from a place on give, from the front of the sheets' words on
pub record Gathered (o : Result ℕ Unopened) (es s : List ℕ) (from : ℕ) (words words' counts counts' : List ℕ) (r : ℕ) : Type 0 where
  pub few : r + sum_of counts' ≤ length s
  pub long : length counts' ≡ length counts
  pub ends : r ≡ length (sheets_of (opened_reading o es) (lines (drop from s)))
  pub sheets : words' ≡ sets words 0 (sheets_of (opened_reading o es) (lines (drop from s)))
  pub outs : counts' ≡ tallied (outs_of (opened_reading o es) (lines (drop from s))) counts
