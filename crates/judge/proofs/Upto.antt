-- A search that passes over numbers that cannot pass its test: where it stands, and what it has found.
-- Assumes nothing.
use Prim.Native.Nat.{ℕ, zero, suc, ◌+◌, ◌-◌, ◌≤◌, ◌<◌}
use mathlib.Core.Bool.{Bool, true, false}
use mathlib.Core.Path.{◌≡◌, refl}
use native.Mathlib.Nat.{add-zero}
use native.Mathlib.Omega.{arith}
use Rattle.agreement.specs.Search.{hit, is_two, first_two}
use Rattle.agreement.specs.declared.Found.{Found}
use Rattle.agreement.specs.declared.Found.TheVariants.{Nothing}
use Rattle.agreement.proofs.SoFar.{SoFar, so_far_none, so_far_hit, so_far_miss, so_far_end, so_far_two}

module _ (p : ℕ → Bool) (n : ℕ) where
  -- no number that was looked at is m or more, and every one from m on that passes is still to come
  pub record Upto (m : ℕ) (h : Found) : Type 0 where
    pub reached : ℕ
    pub low : reached ≤ m
    pub so_far : SoFar p 1 n reached h
    pub left : (k : ℕ) → reached ≤ k → k ≤ n → p k ≡ true → m ≤ k

  pub upto_start : Upto 1 Nothing
  upto_start = record { reached = 1; low = omega arith; so_far = so_far_none p 1 n; left = λ k l h e. l }

  -- numbers that cannot pass are passed over
  pub upto_skip : (m m' : ℕ) (h : Found) → Upto m h → m ≤ m' → ((k : ℕ) → m ≤ k → k ≤ n → p k ≡ true → m' ≤ k) → Upto m' h
  upto_skip m m' h u l f =
      record {
        reached = u.reached;
        low = omega (arith, u.low);
        so_far = u.so_far;
        left = λ k a b e. f k (u.left k a b e) b e;
      }

  -- one after the other, none passes
  skip_by : (d k : ℕ) (h : Found) → SoFar p 1 n k h → k + d ≤ 1 + n → ((j : ℕ) → k ≤ j → j < k + d → p j ≡ false) → SoFar p 1 n (k + d) h
  skip_by zero k h s l f = rw (add-zero k) s
  skip_by (suc d) k h s l f =
      let e : k + 1 + d ≡ k + suc d = omega arith in
      rw e at
      (skip_by d (k + 1) h (so_far_miss p 1 n k h s (omega arith) (f k (omega arith) (omega arith))) (omega arith)
      (λ j a b. f j (omega arith) (omega arith)))

  fails : (b : Bool) → (b ≡ true → ⊥) → b ≡ false
  fails true f = absurd (f refl)
  fails false f = refl

  -- a number of the range is reached
  here : (m : ℕ) (h : Found) → Upto m h → m ≤ 1 + n → SoFar p 1 n m h
  here m h u l =
      let e : u.reached + (m - u.reached) ≡ m = omega (arith, u.low) in
      rw e at
      (skip_by (m - u.reached) u.reached h u.so_far (omega (arith, u.low))
      (λ j a b. fails (p j) (λ q. omega (arith, u.low, u.left j a (omega arith) q))))

  pub upto_hit : (m : ℕ) (h : Found) → Upto m h → m ≤ n → p m ≡ true → Upto (m + 1) (hit m h)
  upto_hit m h u l e =
      record {
        reached = m + 1;
        low = omega arith;
        so_far = so_far_hit p 1 n m h (here m h u (omega arith)) (omega arith) e;
        left = λ k a b q. a;
      }

  pub upto_miss : (m : ℕ) (h : Found) → Upto m h → m ≤ n → p m ≡ false → Upto (m + 1) h
  upto_miss m h u l e =
      record {
        reached = m + 1;
        low = omega arith;
        so_far = so_far_miss p 1 n m h (here m h u (omega arith)) (omega arith) e;
        left = λ k a b q. a;
      }

  -- none is left
  pub upto_none : (m : ℕ) (h : Found) → Upto m h → ((k : ℕ) → m ≤ k → k ≤ n → p k ≡ true → ⊥) → h ≡ first_two p 1 n
  upto_none m h u f =
      let v : Upto (1 + n) h
      = record {
        reached = u.reached;
        low = u.so_far.upto;
        so_far = u.so_far;
        left = λ k a b q. absurd (f k (u.left k a b q) b q);
      } in
      so_far_end p 1 n (1 + n) h (here (1 + n) h v (omega arith)) (omega arith)

  pub upto_two : (m : ℕ) (h : Found) → Upto m h → is_two h ≡ true → h ≡ first_two p 1 n
  upto_two m h u e = so_far_two p 1 n u.reached h u.so_far e
