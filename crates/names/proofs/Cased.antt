-- Letter case.
-- Assumes nothing.
use Prim.Native.Nat.{ℕ, ◌+◌, ◌<◌}
use mathlib.Core.Path.{◌≡◌, refl}
use mathlib.Core.List.{List, [], ◌∷◌}
use native.Mathlib.Decide.{dec_lt}
use native.Mathlib.Omega.{arith}
use borrow.Author.Tests.{le-leb, lt-leb}
use lib.ListN.{length, get_or, length-map, get_or-map}
use Rattle.std.specs.Char.{to_ascii_lowercase, to_ascii_uppercase}
use Rattle.std.proofs.lemmas.Bool.Decides.{nat_tests}
use Rattle.names.specs.Case.{fold, capital, cased}
use Rattle.names.specs.declared.names.Case.{Case}
use Rattle.names.specs.declared.names.Case.TheVariants.{AsIs, Small, Capital}

-- by std's cases: the code of a small letter, of a capital
pub lowered : (b : ℕ) → to_ascii_lowercase b ≡ fold b
unfolding fold
lowered b = grind (arith, nat_tests)

pub raised : (b : ℕ) → to_ascii_uppercase b ≡ capital b
unfolding capital
raised b = grind (arith, nat_tests)

-- the capitals of small letters are the capitals
pub capital_fold : (b : ℕ) → capital (fold b) ≡ capital b
unfolding fold capital
capital_fold b = go (dec_lt b 65) (dec_lt 90 b)
  where
    go : Dec (b < 65) → Dec (90 < b) → capital (fold b) ≡ capital b
    go (yes h) l = rw (lt-leb 65 b h)
    go (no h) (yes l) = simp (le-leb 65 b (omega arith), lt-leb b 90 l)
    go (no h) (no l) =
        simp (
          le-leb 65 b (omega arith),
          le-leb b 90 (omega arith),
          le-leb 97 (b + 32) (omega arith),
          le-leb (b + 32) 122 (omega arith),
          lt-leb 97 b (omega arith),
        ) (omega arith)

-- a text's length and its bytes, in each case
pub cased_length : (k : Case) (s : List ℕ) → length (cased k s) ≡ length s
unfolding cased
cased_length AsIs s = refl
cased_length Small s = length-map s fold
cased_length Capital s = length-map s capital

pub cased_at : (k : Case) (s : List ℕ) (j : ℕ) {b : ℕ} → b ∷ [] ≡ cased k (get_or s j 0 ∷ []) → b ≡ get_or (cased k s) j 0
unfolding cased fold capital
cased_at AsIs s j e = cc
cased_at Small s j e = cc (get_or-map fold s j 0)
cased_at Capital s j e = cc (get_or-map capital s j 0)
