-- How long a report can be, over plain variables.
-- Assumes nothing.
use Prim.Native.Nat.{ℕ, zero, suc, ◌+◌, ◌*◌, ◌≤◌, ◌<◌}
use mathlib.Core.List.{List, [], ◌∷◌}
use mathlib.Core.Path.{◌≡◌}
use native.Mathlib.Omega.{arith}
use lib.Dec.{eqb, lit≤}
use lib.ListN.{length, length-append}
use Rattle.laws.specs.Bytes.{bytes}
use Rattle.laws.proofs.Cases.{picked}
use Rattle.lists.specs.Putting.{each}
use Rattle.sheet_list.specs.Weeks.{Tally}
use Rattle.sheet_list.proofs.Counting.{Most}
use Rattle.text.proofs.Fill.{plain_most}
use Rattle.text.proofs.ReadBack.{filled_length}
use Rattle.week_report.specs.Counting.{how_many}
use Rattle.week_report.specs.Weeks.{week_line, week_lines, total_line, number_line, numbers, left_out}

week_most : (t : Tally) → t.sheets < 100000 → length (week_line t) ≤ 15
unfolding week_line bytes
week_most t h = simp (length-append, filled_length) (omega (arith, plain_most 5 t.sheets (lit≤ tt) (omega arith)))

pub weeks_most : (n : ℕ) (ts : List Tally) → n < 100000 → Most n ts → length (week_lines ts) ≤ 15 * length ts
unfolding week_lines Most
weeks_most n [] h m = omega arith
weeks_most n (t ∷ ts) h m =
    let again = weeks_most n ts h m.1 in
    let one = week_most t (omega (arith, m.0)) in
    omega (arith, length-append (week_line t) (week_lines ts))

total_most : (n : ℕ) → n < 100000 → length (total_line n) ≤ 16
unfolding total_line bytes
total_most n h = simp length-append (omega (arith, plain_most 5 n (lit≤ tt) (omega arith)))

number_most : (k n : ℕ) → k < 100 → n < 100000 → length (number_line k n) ≤ 17
unfolding number_line bytes
number_most k n h l =
    picked (λ (x : List ℕ). length x ≤ 17) (eqb n 0) (lit≤ tt)
    (simp length-append (omega (arith, plain_most 2 k (lit≤ tt) (omega arith), plain_most 5 n (lit≤ tt) (omega arith))))

each_most : (f : ℕ → List ℕ) (m n : ℕ) → ((k : ℕ) → k < n → length (f k) ≤ m) → length (each f n) ≤ n * m
unfolding each
each_most f m zero h = omega arith
each_most f m (suc n) h =
    let again = each_most f m n (λ k l. h k (omega arith)) in
    let one = h n (omega arith) in
    let e : suc n * m ≡ n * m + m = native.Mathlib.Nat.suc-mul n m in
    omega (arith, length-append (each f n) (f n))

many_most : (k : ℕ) (ns : List ℕ) → how_many k ns ≤ length ns
unfolding how_many
many_most k [] = omega arith
many_most k (n ∷ ns) =
    let again = many_most k ns in
    picked (λ (m : ℕ). m ≤ suc (length ns)) (eqb k n) (omega arith) (omega arith)

pub left_most : (ns : List ℕ) → length ns < 100000 → length (left_out ns) ≤ 288
unfolding left_out
left_most ns h =
    let t = total_most (length ns) h in
    let e = each_most (λ k. number_line k (how_many k ns)) 17 numbers
    (λ k l. number_most k (how_many k ns) (omega arith) (omega (arith, many_most k ns))) in
    omega (arith, length-append (total_line (length ns)) (each (λ k. number_line k (how_many k ns)) numbers))
