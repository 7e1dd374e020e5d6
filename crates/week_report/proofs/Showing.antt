-- The lines of weeks and numbers, over plain variables.
-- Assumes nothing.
use Prim.Native.Nat.{ℕ, zero, suc, ◌+◌, ◌/◌, ◌%◌, ◌^◌, ◌<◌}
use mathlib.Core.List.{List, [], ◌∷◌, ◌++◌, map, append_assoc, append-nil}
use mathlib.Core.Path.{◌≡◌, refl, sym, ap, ◌∙◌}
use native.Mathlib.Omega.{arith}
use borrow.Author.Tests.{eq-eqb, ne_eqb}
use lib.Dec.{lit<}
use lib.ListN.{length, get_or, replicate}
use Rattle.laws.specs.Bytes.{bytes}
use Rattle.lists.specs.Putting.{each}
use Rattle.sheet_list.specs.Weeks.{Tally, tally_word}
use Rattle.sheet_list.proofs.Counting.{Most}
use Rattle.sheet_list.proofs.Tables.{word_is}
use Rattle.text.specs.Digits.{plain}
use Rattle.week_report.specs.Counting.{how_many}
use Rattle.week_report.specs.Private.{tallied, sum_of, tally_of, table_shown, numbers_shown, left_shown, Small}
use Rattle.week_report.specs.Weeks.{week_line, week_lines, total_line, number_line, numbers, left_out}
use Rattle.week_report.proofs.Tallying.{Below, tallied_length, tallied_sum, tallied_at}

-- what is the same for each is the same for all
pub each_alike : (f g : ℕ → List ℕ) (n : ℕ) → ((k : ℕ) → k < n → f k ≡ g k) → each f n ≡ each g n
unfolding each
each_alike f g zero h = refl
each_alike f g (suc n) h = rw (each_alike f g n (λ k l. h k (omega arith)), h n (omega arith))

-- the first, and then the others
pub each_first : (f : ℕ → List ℕ) (n : ℕ) → each f (suc n) ≡ f 0 ++ each (λ k. f (suc k)) n
unfolding each
each_first f zero = sym (append-nil (f 0))
each_first f (suc n) = rw (each_first f n) (append_assoc (f 0) (each (λ k. f (suc k)) n) (f (suc n)))

-- ---- weeks

module _ (t : Tally) (h : t.sheets < 2 ^ 44) where
  word-tally : tally_of (tally_word t) ≡ t
  unfolding tally_of
  word-tally =
      let w = word_is t in
      let p : tally_word t / 2 ^ 44 ≡ t.week = omega arith in
      let q : tally_word t % 2 ^ 44 ≡ t.sheets = omega arith in
      rw (p, q)

  word-sheets : tally_word t % 2 ^ 44 ≡ t.sheets
  word-sheets = let w = word_is t in omega arith

pub table_lines : (n : ℕ) (ts : List Tally) → n < 2 ^ 44 → Most n ts → table_shown (map tally_word ts) ≡ week_lines ts
unfolding table_shown week_lines Most
table_lines n [] h m = unfold each in refl
table_lines n (t ∷ ts) h m =
    let again = table_lines n ts h m.1 in
    each_first (λ j. week_line (tally_of (get_or (tally_word t ∷ map tally_word ts) j 0))) (length (map tally_word ts))
    ∙ rw (word-tally t (omega (arith, m.0))) (ap (λ (x : List ℕ). week_line t ++ x) again)

pub table_small : (n : ℕ) (ts : List Tally) → n < 2 ^ 32 → Most n ts → Small (map tally_word ts)
unfolding Most
table_small n [] h m j = lit< tt
table_small n (t ∷ ts) h m zero = let e = word-sheets t (omega (arith, m.0)) in omega (arith, e, m.0)
table_small n (t ∷ ts) h m (suc j) = table_small n ts h m.1 j

-- ---- numbers

pub no_line : (k : ℕ) {n : ℕ} → n ≡ 0 → number_line k n ≡ []
unfolding number_line
no_line k {n} e = rw (eq-eqb n 0 e)

pub some_line : (k : ℕ) {n : ℕ} → (n ≡ 0 → ⊥)
    → number_line k n ≡ bytes "number " ++ (plain k ++ (bytes ": " ++ (plain n ++ bytes "\n")))
unfolding number_line
some_line k {n} e = rw (ne_eqb n 0 e)

-- counts from nothing show what was left out
none_at : (n k : ℕ) → get_or {A = ℕ} (replicate n 0) k 0 ≡ 0
none_at zero k = refl
none_at (suc n) zero = refl
none_at (suc n) (suc k) = none_at n k

none_sum : (n : ℕ) → sum_of (replicate n 0) ≡ 0
unfolding sum_of
none_sum zero = refl
none_sum (suc n) = let again = none_sum n in omega arith

replicate_length : (n : ℕ) → length {A = ℕ} (replicate n 0) ≡ n
replicate_length zero = refl
replicate_length (suc n) = ap suc (replicate_length n)

pub left_lines : (ns : List ℕ) → Below numbers ns → left_shown (tallied ns (replicate numbers 0)) ≡ left_out ns
unfolding left_shown numbers_shown left_out
left_lines ns b =
    let l = replicate_length numbers in
    let p : sum_of (tallied ns (replicate numbers 0)) ≡ length ns
    = tallied_sum ns (replicate numbers 0) (rw l b) ∙ (let z = none_sum numbers in omega arith) in
    let q : length (tallied ns (replicate numbers 0)) ≡ numbers = tallied_length ns (replicate numbers 0) ∙ l in
    let alike = each_alike (λ k. number_line k (get_or (tallied ns (replicate numbers 0)) k 0)) (λ k. number_line k (how_many k ns)) numbers
    (λ k _.
    ap (number_line k) (tallied_at k ns (replicate numbers 0) (rw l b) ∙ ap (λ x. x + how_many k ns) (none_at numbers k) ∙ omega arith)) in
    rw (p, q) (ap (λ (x : List ℕ). total_line (length ns) ++ x) alike)
