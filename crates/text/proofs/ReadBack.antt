-- Digits that were written read back, over any width.
-- Assumes nothing.
use Prim.Native.Nat.{ℕ, zero, suc, ◌+◌, ◌-◌, ◌*◌, ◌/◌, ◌%◌, ◌^◌, ◌≤◌, ◌<◌}
use mathlib.Core.Path.{◌≡◌, refl}
use mathlib.Core.Bool.{true, cond, and-eq-true_iff}
use mathlib.Core.List.{List, [], ◌∷◌, ◌++◌}
use native.Mathlib.Decide.{ℕ_discrete}
use native.Mathlib.Omega.{arith}
use borrow.Author.Tests.{eq-eqb, ne_eqb, le-leb}
use lib.Dec.{eqb}
use lib.ListN.{length, length-append}
use Rattle.laws.specs.Lists.{every}
use Rattle.text.specs.Digits.{digit, leading, filled, is_digit, digit_run, decimal, read_digits}

leading_length : (f w n : ℕ) → length (leading f w n) ≡ w
unfolding leading
leading_length f zero n = refl
leading_length f (suc w) n = rw length-append (omega (arith, leading_length f w (n / 10)))

-- as many places as the width has
pub filled_length : (f w n : ℕ) → length (filled f w n) ≡ w
unfolding filled
filled_length f zero n = refl
filled_length f (suc w) n = rw length-append (omega (arith, leading_length f w (n / 10)))

-- where zeros fill, a place holds the digit that stands there
zero_filled : (n : ℕ) → cond (eqb n 0) 48 (digit (n % 10)) ≡ digit (n % 10)
zero_filled n = go (ℕ_discrete n 0)
  where
    go : Dec (n ≡ 0) → cond (eqb n 0) 48 (digit (n % 10)) ≡ digit (n % 10)
    go (yes e) = rw (eq-eqb n 0 e) (omega arith)
    go (no l) = rw (ne_eqb n 0 l)

zeros_lead : (w n : ℕ) → leading 48 w n ≡ filled 48 w n
unfolding leading filled
zeros_lead zero n = refl
zeros_lead (suc w) n = rw (zero_filled n)

-- filled with zeros: one place less, and the last digit
pub filled_last : (w n : ℕ) → filled 48 (suc w) n ≡ filled 48 w (n / 10) ++ (digit (n % 10) ∷ [])
unfolding filled
filled_last w n = rw (zeros_lead w (n / 10))

digit_is : (n : ℕ) → n ≤ 9 → is_digit (digit n) ≡ true
unfolding is_digit
digit_is n h = simp (le-leb 48 (48 + n) (omega arith), le-leb (48 + n) 57 (omega arith))

every_more : (x : List ℕ) (b : ℕ) → every is_digit x ≡ true → is_digit b ≡ true → every is_digit (x ++ (b ∷ [])) ≡ true
unfolding every
every_more [] b p q = rw q
every_more (a ∷ x) b p q =
    let r = (and-eq-true_iff (is_digit a) (every is_digit x)).0 p in
    rw r.0 (every_more x b r.1 q)

-- filled with zeros: digits only
pub filled_digits : (w n : ℕ) → every is_digit (filled 48 w n) ≡ true
unfolding filled every
filled_digits zero n = refl
filled_digits (suc w) n =
    rw (filled_last w n)
    (every_more (filled 48 w (n / 10)) (digit (n % 10)) (filled_digits w (n / 10)) (digit_is (n % 10) (omega arith)))

-- digits after digits
pub decimal_append : (v : ℕ) (x y : List ℕ) → decimal v (x ++ y) ≡ decimal (decimal v x) y
unfolding decimal
decimal_append v [] y = refl
decimal_append v (b ∷ x) y = decimal_append (v * 10 + (b - 48)) x y

decimal_last : (v n : ℕ) → decimal v (digit n ∷ []) ≡ v * 10 + n
unfolding decimal
decimal_last v n = omega arith

-- the digits of a number that the width has room for spell it
pub filled_back : (w n : ℕ) → n < 10 ^ w → decimal 0 (filled 48 w n) ≡ n
unfolding filled decimal
filled_back zero n h = omega arith
filled_back (suc w) n h =
    rw (
      filled_last w n,
      decimal_append 0 (filled 48 w (n / 10)) (digit (n % 10) ∷ []),
      filled_back w (n / 10) (omega arith),
      decimal_last (n / 10) (n % 10),
    ) (omega arith)

-- digits are taken, all of them where the width has room for no more
pub run_all : (x s : List ℕ) → every is_digit x ≡ true → digit_run (length x) (x ++ s) ≡ x
unfolding digit_run every
run_all [] s p = refl
run_all (b ∷ x) s p =
    let r = (and-eq-true_iff (is_digit b) (every is_digit x)).0 p in
    rw (r.0, run_all x s r.1)

-- greedy reading takes the digits of a number that was written on its width, whatever follows
pub run_back : (w n : ℕ) (s : List ℕ) → digit_run w (filled 48 w n ++ s) ≡ filled 48 w n
run_back w n s = rw (filled_length 48 w n) at (run_all (filled 48 w n) s (filled_digits w n))

-- so the number and its width come back
pub read_back : (w n : ℕ) (s : List ℕ) → n < 10 ^ w → read_digits w (filled 48 w n ++ s) ≡ record { value = n; count = w }
unfolding read_digits
read_back w n s h = rw (run_back w n s, filled_back w n h, filled_length 48 w n)
