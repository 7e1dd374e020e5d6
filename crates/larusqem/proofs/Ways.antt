-- What opening a format answers for C, by cases of the opening's own answer; the budget of an engine that C asks for.
-- Assumes nothing.
use Prim.Native.Nat.{ℕ, ◌≤◌, ◌<◌, ◌^◌}
use mathlib.Core.Bool.{Bool, true, false, cond}
use mathlib.Core.List.{List}
use mathlib.Core.Path.{◌≡◌}
use borrow.Author.Tests.{le-leb, lt-leb}
use lib.Dec.{eqb, lit≤}
use lib.ListN.{length}
use Rattle.format.specs.Opening.{opened}
use Rattle.format.specs.declared.opening.Side.{Side}
use Rattle.judge.specs.declared.Engine.TheVariants.{Skipping, Plain, Within}
use Rattle.strptime.proofs.Places.{budget}
use Rattle.larusqem.specs.Packed.{packed, engine_of, packed_opened, opened_for}
use Rattle.std.specs.Prelude.{Err, Ok, Result, ℕ}
use Rattle.format.specs.declared.opening.Unopened.TheVariants.{Bad, TooLong}
use Rattle.format.specs.declared.opening.Unopened.{Unopened}

-- r is the opening's answer, p what is returned
module _ (d : Side) (f xs : List ℕ) {r : Result ℕ Unopened} (a : r ≡ opened d f) {p : ℕ} where
  pub all_fit : {n : ℕ} → r ≡ Ok n → n ≤ length xs → p ≡ packed 0 n → p ≡ opened_for d f xs
  unfolding opened_for packed_opened
  all_fit {n} e h q = rw (← a, e, le-leb n (length xs) h) q

  pub too_many : {n : ℕ} → r ≡ Ok n → length xs < n → p ≡ packed 4 n → p ≡ opened_for d f xs
  unfolding opened_for packed_opened
  too_many {n} e h q = rw (← a, e, lt-leb n (length xs) h) q

  pub too_long_lem : r ≡ Err TooLong → p ≡ packed 1 0 → p ≡ opened_for d f xs
  unfolding opened_for packed_opened
  too_long_lem e q = rw (← a, e) q

  pub bad_conversion_lem : {k : ℕ} → r ≡ Err (Bad k) → p ≡ packed 3 k → p ≡ opened_for d f xs
  unfolding opened_for packed_opened
  bad_conversion_lem e q = rw (← a, e) q

-- it fits 32 bits
pub budget_fits : (n b : ℕ) → b < 2 ^ 32 → budget (engine_of n b) < 2 ^ 32
unfolding engine_of budget
budget_fits n b h = go (eqb n 0) (eqb n 1)
  where
    go : (x y : Bool) → budget (cond x Skipping (cond y Plain (Within b))) < 2 ^ 32
    go true y = lit≤ tt
    go false true = lit≤ tt
    go false false = h
