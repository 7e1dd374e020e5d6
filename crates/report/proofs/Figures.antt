-- A line's number and place have at most four digits, and so it has at most 30 bytes, over plain variables.
-- Assumes nothing.
use Prim.Native.Nat.{ℕ, ◌≤◌, ◌<◌}
use mathlib.Core.List.{List}
use mathlib.Core.Path.{◌≡◌, refl}
use native.Mathlib.Omega.{arith}
use lib.Dec.{lit≤}
use lib.ListN.{length, length-append}
use Rattle.laws.specs.Bytes.{bytes}
use Rattle.lists.specs.Answers.{opened_reading}
use Rattle.lists.proofs.Figures.{opened_numbers, opened_place, date_length}
use Rattle.report.specs.Line.{day_shown, said_shown, moment_shown, line_of}
use Rattle.text.proofs.Fill.{plain_most}
use Rattle.text.proofs.ReadBack.{filled_length}
use Rattle.strptime.specs.declared.Reading.{Reading}
use Rattle.std.specs.Prelude.{None, Option, Result, Some, ℕ}
use Rattle.calendar.specs.declared.Date.{Date}
use Rattle.format.specs.declared.opening.Unopened.{Unopened}

-- ---- how long a line is
day_most : (d : Option Date) → length (day_shown d) ≤ 10
unfolding day_shown bytes
day_most None = lit≤ tt
day_most (Some d) = omega (arith, date_length d)

said_two : (x : Option ℕ) → length (said_shown x) ≡ 2
unfolding said_shown bytes
said_two None = refl
said_two (Some n) = filled_length 48 2 n

moment_most : (d : Option Date) (h m c : Option ℕ) → length (moment_shown d h m c) ≤ 19
unfolding moment_shown bytes
moment_most d h m c = simp length-append (omega (arith, day_most d, said_two h, said_two m, said_two c))

line_most : (r : Reading) → r.number < 10000 → r.place < 10000 → length (line_of r) ≤ 30
unfolding line_of bytes
line_most r p q =
    simp length-append
    (omega (
      arith,
      plain_most 4 r.number (lit≤ tt) (omega arith),
      plain_most 4 r.place (lit≤ tt) (omega arith),
      moment_most r.day r.hour r.minute r.second,
    ))

-- of a text as it is read
pub line_short : (o : Result ℕ Unopened) (es s : List ℕ) → length (line_of (opened_reading o es s)) ≤ 30
line_short o es s =
    let n = opened_numbers (λ n x. n ≤ 11) (λ n h. h) (λ a b. lit≤ tt) (λ a b h i. lit≤ tt) o es s in
    line_most (opened_reading o es s) (omega arith) (omega (arith, opened_place o es s))
