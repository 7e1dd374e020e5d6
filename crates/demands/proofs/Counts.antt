-- How many days the engines examine.
-- Assumes nothing.
use Prim.Native.Nat.{ℕ, zero, suc, ◌≤◌}
use mathlib.Core.Bool.{Bool, true, false}
use mathlib.Core.List.{List, Memᴰ as Member}
use mathlib.Core.Logic.{◌↔◌}
use mathlib.Core.Path.{◌≡◌, refl, sym, ap, ◌∙◌}
use native.Mathlib.Omega.{arith}
use Rattle.laws.specs.Lists.{every}
use Rattle.kinds.specs.Kinds.{day_kinds}
use Rattle.calendar.specs.Calendar.{sum, days, date_of}
use Rattle.agreement.specs.Demand.{IsDay, AllAgree}
use Rattle.judge.specs.Engines.{month_kinds, month_agrees, month_days}
use Rattle.judge.specs.declared.Engine.TheVariants.{Skipping, Plain}
use Rattle.judge.proofs.Engines.{by_plain, plain_two, plain_all, plain_most, skipping_count_lem, month_agrees_lem}
use Rattle.strptime.specs.Answers.{naming, examining, reading_by}
use Rattle.strptime.specs.declared.Reading.{Reading}
use Rattle.values.specs.Values.{date_value}
use Rattle.demands.specs.Counts.{passing, one_to_four, MonthAgrees, Counts}
use Rattle.demands.specs.Engines.{plain_days}
use Rattle.demands.specs.Facts.{Matched}
use Rattle.demands.proofs.Demand.{within, not_none, day_by}
use Rattle.demands.proofs.Engines.{kept, read_is, plain_days_lem}
use Rattle.demands.proofs.Matched.{handed}
use Rattle.demands.proofs.Written.{day_would}

-- two tests that pass alike are the same
same_test : (a b : Bool) → (a ≡ true → b ≡ true) → (b ≡ true → a ≡ true) → a ≡ b
same_test true b f g = sym (f refl)
same_test false true f g = g refl
same_test false false f g = refl

-- tests that are the same on the numbers 1 to n are passed as often
passing_same : (p q : ℕ → Bool) (n : ℕ) → ((k : ℕ) → 1 ≤ k → k ≤ n → p k ≡ q k) → passing p n ≡ passing q n
unfolding passing sum
passing_same p q zero f = refl
passing_same p q (suc n) f =
    let here = f (suc n) (omega arith) (omega arith) in
    rw (here, passing_same p q n (λ k l m. f k l (omega arith)))

month_kind : (k : ℕ) → Member k one_to_four → (1 ≤ k) × (k ≤ 12)
month_kind = within 1 12 one_to_four (unfold every in refl)

module _ (f s : List ℕ) (m : Matched f s) where
  -- what is kept and what is said agree with the same years and months
  month_said : (d : ℕ) → IsDay d → AllAgree (kept f s m) month_kinds (λ j. date_value j (date_of d)) ↔ MonthAgrees f s d
  unfolding month_kinds
  month_said d i = (
    λ g k n b x. let w = month_kind k b in (day_would d i.0 i.1 k n w.0 w.1).1 (g k n b ((handed f s m k n).1 x)),
    λ g k n b x. let w = month_kind k b in (day_would d i.0 i.1 k n w.0 w.1).0 (g k n b ((handed f s m k n).0 x)),
  )

  -- of the days that the plain engine examines
  module _ (p : ℕ → Bool) (h : (k : ℕ) → IsDay k → (p k ≡ true) ↔ MonthAgrees f s k) where
    same-month : (k : ℕ) → IsDay k → month_agrees (kept f s m) k ≡ p k
    same-month k i =
        let a = month_agrees_lem (kept f s m) k in
        let b = month_said k i in
        same_test (month_agrees (kept f s m) k) (p k) (λ e. (h k i).1 (b.0 (a.0 e))) (λ e. a.1 (b.1 ((h k i).0 e)))

    month-count : (n : ℕ) → n ≤ days → month_days (kept f s m) n ≡ passing p n
    unfolding month_days passing
    month-count n l = passing_same (month_agrees (kept f s m)) p n (λ k a b. same-month k (a, omega arith))

    skipping-days : (reading_by Skipping f s).examined ≡ passing p (plain_days f s)
    unfolding naming examining
    skipping-days =
        let q = (by_plain (kept f s m)).1 in
        ap (λ (r : Reading). r.examined) (read_is f s m Skipping (skipping_count_lem (kept f s m) q))
        ∙ month-count (by_plain (kept f s m)).0 (plain_most (kept f s m) q)
        ∙ ap (passing p) (sym (plain_days_lem f s m))

  pub counts : Counts f s
  unfolding naming examining
  counts =
      record {
        two = λ a b some first.
            let q = plain_two (kept f s m) (((day_by f s m).«open» a b).1 (not_none f s m day_kinds some, first)) in
            ap (λ (r : Reading). r.examined) (read_is f s m Plain q);
        all = λ some none.
            let q =
            plain_all (kept f s m) (λ e. not_none f s m day_kinds some ((day_by f s m).unsaid.0 e))
            (λ a b e. none a b (((day_by f s m).«open» a b).0 e).1) in
            ap (λ (r : Reading). r.examined) (read_is f s m Plain q);
        tested = (
          month_agrees (kept f s m),
          λ k i.
              let a = month_agrees_lem (kept f s m) k in
              let b = month_said k i in
              (λ e. b.0 (a.0 e), λ e. a.1 (b.1 e)),
        );
        skipping = skipping-days;
      }
