-- What %z and %s write (RULES 5).
use Prim.Native.Char.{code}
use Rattle.std.specs.Prelude.{ℕ, suc, ◌/◌, ◌%◌, List, [], ◌∷◌, ◌++◌, Option, None, Some, ℤ, pos, negsuc}
use Rattle.text.specs.Digits.{plain, filled}
use Rattle.values.specs.Offsets.{seconds}
use Rattle.values.specs.declared.Moment.{Moment}

-- minutes as two digits of hours and two of minutes
unfoldable pub hours_minutes : ℕ → List ℕ
hours_minutes n = filled 48 2 (n / 60) ++ filled 48 2 (n % 60)

-- an offset with its sign, a plus where it is zero
unfoldable pub east : ℤ → List ℕ
east (pos n) = code "+" ∷ hours_minutes n
east (negsuc n) = code "-" ∷ hours_minutes (suc n)

-- %z: nothing where the offset is unsaid
unfoldable pub zone : Option ℤ → List ℕ
zone None = []
zone (Some z) = east z

-- a whole number: its digits, after a minus sign below zero
unfoldable pub whole : ℤ → List ℕ
whole (pos n) = plain n
whole (negsuc n) = code "-" ∷ plain (suc n)

-- %s: where the offset is unsaid the writing is refused, by 12
unfoldable pub epoch_seconds : Moment → Option ℤ → List ℕ
epoch_seconds m None = []
epoch_seconds m (Some z) = whole (seconds m z)

-- everything here, for proofs that compute
unfoldable pub computes : Unit {0}
unfolding hours_minutes east zone whole epoch_seconds
computes = tt
