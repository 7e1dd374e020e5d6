-- Which engine each number asks for.
-- Assumes nothing.
use Prim.Native.Nat.{ℕ, suc}
use mathlib.Core.Path.{◌≡◌, refl}
use native.Mathlib.Omega.{arith}
use borrow.Author.Tests.{ne_eqb}
use Rattle.judge.specs.declared.Engine.TheVariants.{Skipping, Plain, Within}
use Rattle.larusqem.specs.Packed.{engine_of}

module _ (b : ℕ) where
  pub by_0 : engine_of 0 b ≡ Skipping
  unfolding engine_of
  by_0 = refl

  pub by_1 : engine_of 1 b ≡ Plain
  unfolding engine_of
  by_1 = refl

  pub by_any_other : (n : ℕ) → engine_of (suc (suc n)) b ≡ Within b
  unfolding engine_of
  by_any_other n =
      let not-0 = ne_eqb (suc (suc n)) 0 (λ (z : suc (suc n) ≡ 0). omega arith) in
      let not-1 = ne_eqb (suc (suc n)) 1 (λ (z : suc (suc n) ≡ 1). omega arith) in
      rw (not-0, not-1)
