-- `text::space::is_space` meets its contract: past 32 no byte is white space, and up to there the set's bits are compared with the
-- definition one by one.
use Prim.Native.Nat.{ℕ, ◌/◌, ◌%◌, ◌^◌, ◌<◌}
use mathlib.Core.Bool.{Bool}
use mathlib.Core.List.{map}
use mathlib.Core.Path.{◌≡◌, refl}
use native.Mathlib.Omega.{arith}
use borrow.Author.Tests.{le-leb, lt-leb, ne_eqb}
use lib.Dec.{eqb}
use Rattle.laws.specs.Lists.{range}
use Rattle.laws.proofs.Table.{same_at}
use Rattle.text.specs.Space.{is_space}
use Rattle.text.proofs.space.is_space.Goals as goal

-- whether a set has a byte
abbrev has : ℕ → ℕ → Bool
has set b = eqb (set / 2 ^ b % 2) 1

bits : (set : ℕ) → map (has set) (range 0 33) ≡ map is_space (range 0 33) → (b : ℕ) → b < 33 → has set b ≡ is_space b
bits set e b l = same_at (has set) is_space 33 0 e b (omega arith) l

pub returns-then-b-gt32 : goal.returns-then-b-gt32
unfolding is_space
returns-then-b-gt32 c =
    let b = c.args.b in
    simp (le-leb 9 b (omega arith), lt-leb b 13 (omega arith), ne_eqb b 32 (λ e. omega (arith, e)))

pub returns : goal.returns
unfolding is_space range
returns c = bits _ refl c.args.b (omega arith)
