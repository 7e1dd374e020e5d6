-- Decimal digits over any width: what one store of the writer's loop and one digit of the reader's come to.
use Prim.Native.Nat.{ℕ, zero, suc, ◌+◌, ◌-◌, ◌*◌, ◌/◌, ◌%◌, ◌^◌, ◌≤◌, ◌<◌, min}
use mathlib.Core.Path.{◌≡◌, refl, sym, ◌∙◌}
use mathlib.Core.Bool.{Bool, true, false, cond, and-eq-true_iff}
use mathlib.Core.List.{List, [], ◌∷◌, ◌++◌, append_assoc}
use native.Mathlib.Nat.{add-zero, zero-add, pow-le-pow_right}
use native.Mathlib.Numerals.{add-one}
use native.Mathlib.Omega.{arith}
use borrow.Author.Tests.{leb-true}
use lib.Dec.{eqb, leb, lit<}
use lib.ListN.{length, get_or, drop, take, set, length-take, length-set, drop_of_length-le}
use lib.Seq.{drop-cons, get_or-set_same, drop-set-lt}
use Rattle.text.specs.Digits.{digit, leading, filled, is_digit, digit_run, decimal, read_digits}
use Rattle.text.specs.declared.digits.Digits.{Digits}

-- ---- writing

drop_set : (buf : List ℕ) (i a : ℕ) → i < length buf → drop i (set buf i a) ≡ a ∷ drop (suc i) buf
drop_set buf i a h =
    rw (drop-cons (set buf i a) i 0 (rw length-set h), get_or-set_same buf i a 0 h, drop-set-lt (suc i) buf i a (omega arith))

-- the last of i places is stored: what is left are the places before it
pub place : (f n : ℕ) (buf : List ℕ) {b : ℕ} (i : ℕ) → 0 < i → i ≤ length buf → b ≡ cond (eqb n 0) f (digit (n % 10))
    → leading f (i - 1) (n / 10) ++ drop (i - 1) (set buf (i - 1) b) ≡ leading f i n ++ drop i buf
unfolding leading
place f n buf zero z h e = absurd (omega arith)
place f n buf {b} (suc i) z h e =
    let q : suc i - 1 ≡ i = omega arith in
    rw (q, drop_set buf i b h, e, append_assoc)

pub nothing : (f n : ℕ) (buf : List ℕ) → length buf ≡ 0 → buf ≡ filled f (length buf) n
unfolding filled
nothing f n [] e = refl
nothing f n (x ∷ xs) e = absurd (omega arith)

-- the whole of a width: its last digit, stored first, and the places before it
pub whole : (f n : ℕ) (buf : List ℕ) {b : ℕ} {out : List ℕ} → 0 < length buf → b ≡ digit (n % 10)
    → out ≡ leading f (length buf - 1) (n / 10)
    → out ++ drop (length buf - 1) (set buf (length buf - 1) b) ≡ filled f (length buf) n
unfolding filled
whole f n [] z e p = absurd (omega arith)
whole f n (x ∷ xs) {b} z e p =
    let q : length (x ∷ xs) - 1 ≡ length xs = omega arith in
    rw (p, q, drop_set (x ∷ xs) (length xs) b (omega arith), e, drop_of_length-le xs {i = length xs} (omega arith))

-- ---- reading

moved : (n m : ℕ) → n + suc m ≡ n + 1 + m
moved n m = omega arith

-- what is read of a text, where n digits that spell v stand before it
abbrev pub read_on : ℕ → ℕ → List ℕ → Digits
read_on v n s = let run = digit_run (length s) s in record { value = decimal v run; count = n + length run }

-- as many digits as a text has at most are taken of so much of it
run_within : (w : ℕ) (s : List ℕ) → digit_run (min (length s) w) (take (min (length s) w) s) ≡ digit_run w s
unfolding digit_run
run_within zero s = let q : min (length s) 0 ≡ 0 = omega arith in rw q
run_within (suc w) [] = let q : min 0 (suc w) ≡ 0 = omega arith in rw q
run_within (suc w) (b ∷ s) =
    let q : min (suc (length s)) (suc w) ≡ suc (min (length s) w) = omega arith in rw (q, run_within w s)

pub from_none : (w : ℕ) (s : List ℕ) {m : ℕ} → m ≡ min (length s) w → read_on 0 0 (take m s) ≡ read_digits w s
unfolding read_digits
from_none w s e =
    let q : length (take (min (length s) w) s) ≡ min (length s) w = rw length-take (omega arith) in
    rw (e, q, run_within w s, zero-add (length (digit_run w s)))

module _ (v n : ℕ) (s : List ℕ) (k : ℕ) where
  pub full : length s ≤ k → read_on v n (drop k s) ≡ record { value = v; count = n }
  unfolding decimal digit_run
  full h = rw (drop_of_length-le s h, add-zero)

  pub stop : {t : Bool} → k < length s → t ≡ is_digit (get_or s k 0) → t ≡ false
      → read_on v n (drop k s) ≡ record { value = v; count = n }
  unfolding decimal digit_run
  stop {t} h e f = rw (drop-cons s k 0 h, ← e, f, add-zero)

  pub more : {t : Bool} → k < length s → t ≡ is_digit (get_or s k 0) → t ≡ true
      → read_on v n (drop k s) ≡ read_on (v * 10 + (get_or s k 0 - 48)) (n + 1) (drop (k + 1) s)
  unfolding decimal digit_run
  more {t} h e f =
      rw
      (drop-cons s k 0 h, ← e, f, add-one k, moved n (length (digit_run (length (drop (suc k) s)) (drop (suc k) s))))

-- a byte that passed the test lies between 48 and 57
pub digit_range : {t : Bool} (b : ℕ) → t ≡ is_digit b → t ≡ true → (48 ≤ b) × (b ≤ 57)
unfolding is_digit
digit_range {t} b e f =
    let p = (and-eq-true_iff (leb 48 b) (leb b 57)).0 (sym e ∙ f) in
    (leb-true 48 b p.0, leb-true b 57 p.1)

-- n digits spell a number below 10 to the n; where there are fewer than 9, another one has room in 32 bits
pub grows : (n : ℕ) {v d : ℕ} → v < 10 ^ n → d ≤ 9 → v * 10 + d < 10 ^ (n + 1)
grows n h l = rw add-one (omega arith)

pub room : (n : ℕ) {v : ℕ} → n < 9 → v < 10 ^ n → v < 100000000
room n h l = omega (arith, pow-le-pow_right {n = 10} (lit< tt) {i = n} {j = 8} (omega arith))
