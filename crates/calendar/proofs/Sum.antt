-- Laws of `sum` and of counting off periods, over any lengths: years and months cite the same ones.
-- Assumes nothing.
use Prim.Native.Nat.{ℕ, zero, suc, ◌+◌, ◌-◌, ◌≤◌, ◌<◌}
use mathlib.Core.Logic.{⊎_elim}
use mathlib.Core.Path.{◌≡◌, refl, ap, ap₂, ◌∙◌}
use native.Mathlib.Decide.{dec_le}
use native.Mathlib.Nat.{eq-or-lt_of_le, lt_of_not-le, add-suc, add-zero}
use native.Mathlib.Omega.{arith}
use borrow.Author.Tests.{le-leb, lt-leb}
use Rattle.calendar.specs.Calendar.{sum, period_of}

-- where x days end: after all the days of p periods, and within one period more
pub record Located (f : ℕ → ℕ) (x : ℕ) : Type 0 where
  pub past : ℕ
  pub after : sum f past < x
  pub upto : x ≤ sum f (suc past)

module _ (f : ℕ → ℕ) where
  pub sum_suc : (n : ℕ) → sum f (suc n) ≡ sum f n + f (suc n)
  unfolding sum
  sum_suc n = refl

  pub sum_last : (n : ℕ) → 0 < n → sum f n ≡ sum f (n - 1) + f n
  sum_last zero h = absurd (omega arith)
  sum_last (suc n) h = let e : suc n - 1 ≡ n = omega arith in rw e (sum_suc n)

  pub sum_mono : (m n : ℕ) → m ≤ n → sum f m ≤ sum f n
  sum_mono m zero h = let e : m ≡ 0 = omega arith in rw e (omega arith)
  sum_mono m (suc n) h =
      ⊎_elim
      (λ e. rw e (omega arith))
      (λ l. omega (arith, sum_suc n, sum_mono m n (omega arith)))
      (eq-or-lt_of_le h)

  -- r days into period k + 1, counted from the start of period j + 1, end in period k + 1
  pub period_is : (n j k r x : ℕ) → j ≤ k → k ≤ j + n → 0 < r → r ≤ f (suc k) → x + sum f j ≡ sum f k + r → period_of f n (suc j) x ≡ suc k
  unfolding period_of
  period_is zero j k r x a b p q e = omega arith
  period_is (suc n) j k r x a b p q e =
      ⊎_elim
      (λ s. rw (le-leb x (f (suc j)) (omega (arith, ap (sum f) s, ap (λ (i : ℕ). f (suc i)) s))) (ap suc s))
      (λ l. rw (lt-leb x (f (suc j)) (omega (arith, sum_suc j, sum_mono (suc j) k l)))
      (period_is n (suc j) k r (x - f (suc j)) l (omega arith) p q (omega (arith, sum_suc j, sum_mono (suc j) k l))))
      (eq-or-lt_of_le a)

  pub locate : (n x : ℕ) → 0 < x → x ≤ sum f n → (l : Located f x) × (l.past < n)
  unfolding sum
  locate zero x p h = absurd (omega arith)
  locate (suc n) x p h =
      elim (dec_le x (sum f n)) [
        | yes l ↦ (let r = locate n x p l in (r.0, omega (arith, r.1)))
        | no l ↦ (record { past = n; after = lt_of_not-le l; upto = h }, omega arith)
      ]

  -- the first a + b terms: a of them, and b more
  pub sum_add : (a b : ℕ) → sum f (a + b) ≡ sum f a + sum (λ i. f (a + i)) b
  unfolding sum
  sum_add a zero = rw (add-zero a) (omega arith)
  sum_add a (suc b) = rw (add-suc a b) (omega (arith, sum_add a b))

-- equal terms
pub sum_same : (f g : ℕ → ℕ) (n : ℕ) → ((i : ℕ) → 0 < i → i ≤ n → f i ≡ g i) → sum f n ≡ sum g n
unfolding sum
sum_same f g zero e = refl
sum_same f g (suc n) e =
    ap₂ ◌+◌ (sum_same f g n (λ i l h. e i l (omega arith))) (e (suc n) (omega arith) (omega arith))

-- period by period: h i sums up f over period i
pub sum_periods : (f size h : ℕ → ℕ) (n : ℕ)
    → ((i : ℕ) → i < n → sum (λ k. f (sum size i + k)) (size (suc i)) ≡ h (suc i)) → sum f (sum size n) ≡ sum h n
unfolding sum
sum_periods f size h zero e = refl
sum_periods f size h (suc n) e =
    sum_add f (sum size n) (size (suc n))
    ∙ ap₂ ◌+◌ (sum_periods f size h n (λ i l. e i (omega arith))) (e n (omega arith))
