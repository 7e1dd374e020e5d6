-- Decimal digits over any width: how a number is written, and how digits are read.
use Rattle.std.specs.Prelude.{ℕ, zero, suc, ◌+◌, ◌-◌, ◌*◌, ◌/◌, ◌%◌, Bool, cond, ◌&&◌, List, [], ◌∷◌, ◌++◌, eqb, leb, ltb, length}
use Rattle.text.specs.declared.digits.Digits.{Digits}

-- the byte of a digit
abbrev pub digit : ℕ → ℕ
digit n = 48 + n

-- n on w places, one digit to a place, where a place before its first digit is filled with f
unfoldable pub leading : ℕ → ℕ → ℕ → List ℕ
leading f zero n = []
leading f (suc w) n = leading f w (n / 10) ++ (cond (eqb n 0) f (digit (n % 10)) ∷ [])

-- n on exactly w places, filled on the left with f: its last digit stands even where n is 0
unfoldable pub filled : ℕ → ℕ → ℕ → List ℕ
filled f zero n = []
filled f (suc w) n = leading f w (n / 10) ++ (digit (n % 10) ∷ [])

-- the digits of n, from the first that counts on; the first argument bounds how many
unfoldable pub digits : ℕ → ℕ → List ℕ
digits zero n = []
digits (suc w) n = let before = digits w (n / 10) in cond (ltb n 10) [] before ++ (digit (n % 10) ∷ [])

-- n in decimal, with no zeros before it
unfoldable pub plain : ℕ → List ℕ
plain n = digits (suc n) n

unfoldable pub is_digit : ℕ → Bool
is_digit b = leb 48 b && leb b 57

-- the digits that a text begins with, taken greedily, at most w
unfoldable pub digit_run : ℕ → List ℕ → List ℕ
digit_run zero s = []
digit_run (suc w) [] = []
digit_run (suc w) (b ∷ s) = let more = b ∷ digit_run w s in cond (is_digit b) more []

-- the number that digits spell, after the digits of v
unfoldable pub decimal : ℕ → List ℕ → ℕ
decimal v [] = v
decimal v (b ∷ s) = decimal (v * 10 + (b - 48)) s

-- the digits that a text begins with, at most w: the number that they spell, and how many they are
unfoldable pub read_digits : ℕ → List ℕ → Digits
read_digits w s = record { value = decimal 0 (digit_run w s); count = length (digit_run w s) }
