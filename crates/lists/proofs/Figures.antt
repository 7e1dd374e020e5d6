-- How large the figures of an answer are, and how long a date is shown.
-- Assumes nothing.
use Prim.Native.Nat.{ℕ, ◌≤◌, ◌<◌, ◌^◌}
use mathlib.Core.List.{List}
use mathlib.Core.Path.{◌≡◌, refl}
use native.Mathlib.Omega.{arith}
use lib.Dec.{leb, lit≤}
use lib.ListN.{length, take, length-append}
use Rattle.calendar.specs.declared.Date.{Date}
use Rattle.format.specs.Opening.{longest, most_elements}
use Rattle.judge.specs.declared.Engine.TheVariants.{Skipping}
use Rattle.laws.specs.Bytes.{bytes}
use Rattle.laws.proofs.Cases.{picked}
use Rattle.lists.specs.Answers.{opened_reading}
use Rattle.lists.specs.Putting.{date_shown}
use Rattle.strptime.specs.Answers.{showing, refused, unless_long}
use Rattle.strptime.specs.declared.Reading.{Reading}
use Rattle.strptime.proofs.Numbers.{elements_numbers}
use Rattle.strptime.proofs.Places.{elements_place}
use Rattle.text.proofs.ReadBack.{filled_length}
use Rattle.std.specs.Prelude.{Err, None, Ok, Option, Result, Some, ℕ}
use Rattle.format.specs.declared.opening.Unopened.TheVariants.{Bad, TooLong}
use Rattle.format.specs.declared.opening.Unopened.{Unopened}
use Rattle.strptime.specs.declared.Shown.TheVariants.{Days, Hours}
use Rattle.strptime.specs.declared.Shown.{Shown}

-- what holds of numbers and what is shown with them holds of an answer's
pub opened_numbers : (P : ℕ → Option Shown → Type 0) → ((n : ℕ) → n ≤ 11 → P n None) → ((a b : Date) → P 10 (Some (Days a b)))
    → ((a b : ℕ) → a ≤ 23 → b ≤ 23 → P 10 (Some (Hours a b))) → (o : Result ℕ Unopened) (es s : List ℕ)
    → P (opened_reading o es s).number (opened_reading o es s).shown
unfolding opened_reading unless_long showing refused
opened_numbers P alone days hours (Ok n) es s = elements_numbers P alone days hours Skipping (take n es) s
opened_numbers P alone days hours (Err TooLong) es s = alone 1 (lit≤ tt)
opened_numbers P alone days hours (Err (Bad p)) es s =
    picked (λ (r : Reading). P r.number r.shown) (leb (length s) longest) (alone 3 (lit≤ tt)) (alone 5 (lit≤ tt))

-- a place is at most the most elements
pub opened_place : (o : Result ℕ Unopened) (es s : List ℕ) → (opened_reading o es s).place ≤ most_elements
unfolding opened_reading unless_long showing refused
opened_place (Ok n) es s = elements_place (take n es) s
opened_place (Err TooLong) es s = lit≤ tt
opened_place (Err (Bad p)) es s = picked (λ (r : Reading). r.place ≤ most_elements) (leb (length s) longest) (omega arith) (lit≤ tt)

pub place_fits : (o : Result ℕ Unopened) (es s : List ℕ) → (opened_reading o es s).place < 2 ^ 32
place_fits o es s = omega (arith, opened_place o es s)

pub date_length : (d : Date) → length (date_shown d) ≡ 10
unfolding date_shown bytes
date_length d = simp (length-append, filled_length) refl
