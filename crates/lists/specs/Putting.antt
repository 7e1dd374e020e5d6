-- Bytes that are put into a buffer, and how a date is shown.
use Rattle.std.specs.Prelude.{ℕ, zero, suc, ◌+◌, min, List, [], ◌++◌, ◌≡◌, length}
use Rattle.std.proofs.lemmas.List.Edits.{sets}
use Rattle.calendar.specs.declared.Date.{Date}
use Rattle.laws.specs.Bytes.{bytes}
use Rattle.lists.specs.declared.putting.Writer.{Writer}
use Rattle.text.specs.Digits.{filled}

-- x is put into a buffer from a place on, as much of it as fits, and the answer is the place after it, at most the buffer's end
pub record Put (x before : List ℕ) (at : ℕ) (after : List ℕ) (end : ℕ) : Type 0 where
  pub ends : end ≡ min (at + length x) (length before)
  pub stores : after ≡ sets before at x

-- x is put at a writer's place
pub record Writes (x : List ℕ) (before after : Writer) : Type 0 where
  pub same_buffer : after.out.ghost_name ≡ before.out.ghost_name
  pub puts : Put x before.out.now before.at after.out.now after.at

-- what f gives for 0, 1, .., n - 1, one after the other
unfoldable pub each : (ℕ → List ℕ) → ℕ → List ℕ
each f zero = []
each f (suc n) = each f n ++ f n

-- a date, as YYYY-MM-DD
unfoldable pub date_shown : Date → List ℕ
date_shown d = filled 48 4 d.year ++ (bytes "-" ++ (filled 48 2 d.month ++ (bytes "-" ++ filled 48 2 d.day)))
