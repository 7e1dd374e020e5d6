-- Demand 3: the verdicts are those of RULES 8, for the day and for the hour.
-- Assumes nothing.
use Prim.Native.Nat.{ℕ, zero, suc, ◌+◌, ◌-◌, ◌≤◌, ◌<◌}
use mathlib.Core.Bool.{Bool, true, false, cond, not, true≢false, false≢true}
use mathlib.Core.List.{List}
use mathlib.Core.Path.{◌≡◌, refl, sym, ap, ◌∙◌}
use native.Mathlib.Decide.{dec_le}
use native.Mathlib.Nat.{le_antisymm, lt_of_not-le}
use native.Mathlib.Omega.{arith}
use borrow.Author.Tests.{eq-eqb, ne_eqb, eqb-true, not-false}
use lib.Dec.{eqb, lit≤}
use Rattle.laws.proofs.Cases.{clash}
use Rattle.laws.proofs.Lists.{every_member}
use Rattle.calendar.specs.Calendar.{days, date_of}
use Rattle.agreement.specs.Agreement.{said, none_said, agrees, all_agree, date_agrees, day_agrees, hour_agrees, day_borne, hour_borne}
use Rattle.agreement.specs.Demand.{NoneSaid, NoDayFact, NoHourFact, IsDay, IsHour, AllAgree, DayAgrees, HourAgrees}
use Rattle.agreement.specs.Demand.{Only, Earliest, Judged, DayJudged, HourJudged}
use Rattle.agreement.specs.Search.{first_two}
use Rattle.agreement.specs.Verdicts.{verdict_of, days_found, day_verdict, hour_verdict}
use Rattle.agreement.specs.declared.Facts.{Facts}
use Rattle.agreement.specs.declared.Found.{Found}
use Rattle.agreement.specs.declared.Found.TheVariants.{Nothing, One, Two}
use Rattle.agreement.specs.declared.Verdict.TheVariants.{Unsaid, Agreed}
use Rattle.kinds.specs.Kinds.{day_kinds, hour_kinds}
use Rattle.values.specs.Values.{date_value, hour_value}
use Rattle.calendar.proofs.Years.{days_is}
use Rattle.agreement.proofs.Every.{member_every}
use Rattle.agreement.proofs.Tells.{Tells, none, single, double, tells}

-- The words over any test p of the n numbers from `from` on that says just what agreement is, where nothing said leaves the
-- first of them free
module _
    (None : Type 0) (Is Agrees : ℕ → Type 0) (p : ℕ → Bool) (from n : ℕ) (borne : Bool)
    (unborne : borne ≡ false → None) (unborne' : None → borne ≡ false)
    (in-range : (k : ℕ) → Is k → (from ≤ k) × (k < from + n)) (range-in : (k : ℕ) → from ≤ k → k < from + n → Is k)
    (agreeing : (k : ℕ) → p k ≡ true → Agrees k) (passing : (k : ℕ) → Agrees k → p k ≡ true)
    (free : None → Is from × Agrees from)
  where
    borne-by : borne ≡ true → None → ⊥
    borne-by e z = true≢false (sym e ∙ unborne' z)

    -- one that agrees, against what was found
    none_agrees_lem : ((k : ℕ) → from ≤ k → k < from + n → p k ≡ false) → (k : ℕ) → Is k → Agrees k → ⊥
    none_agrees_lem f k i a = false≢true (sym (f k (in-range k i).0 (in-range k i).1) ∙ passing k a)

    one-agrees : (c : ℕ) → ((k : ℕ) → from ≤ k → k < from + n → p k ≡ true → k ≡ c) → (k : ℕ) → Is k → Agrees k → k ≡ c
    one-agrees c f k i a = f k (in-range k i).0 (in-range k i).1 (passing k a)

    two-agree : (c d : ℕ) → ((k : ℕ) → from ≤ k → k < d → p k ≡ true → k ≡ c) → (k : ℕ) → Is k → Agrees k → k < d → k ≡ c
    two-agree c d f k i a l = f k (in-range k i).0 l (passing k a)

    -- the two earliest are these two and no others
    same-two : (a b c d : ℕ) → Earliest Is Agrees a b → Earliest Is Agrees c d → (c ≡ a) × (d ≡ b)
    same-two a b c d u v =
        let e : d ≡ b = le_antisymm (later c d a b v u) (later a b c d u v) in
        (u.none_before c v.is_first v.first_agrees (omega (arith, v.earlier)), e)
      where
        later : (a b c d : ℕ) → Earliest Is Agrees a b → Earliest Is Agrees c d → b ≤ d
        later a b c d u v =
            elim (dec_le b d) [
              | yes l ↦ l
              | no l ↦
                  (let m : d < b = lt_of_not-le l in
                  let x = u.none_before c v.is_first v.first_agrees (omega (arith, v.earlier)) in
                  let y = u.none_before d v.is_second v.second_agrees m in
                  absurd (omega (arith, v.earlier)))
            ]

    judged-by : (b : Bool) (h : Found) → borne ≡ b → Tells p from (from + n) h → Judged None Is Agrees (cond b (verdict_of h) Unsaid)
    unfolding verdict_of
    judged-by false h e t =
        record {
          unsaid = (λ q. unborne e, λ z. refl);
          impossible = (λ q. clash (cc), λ f. absurd (f from (free (unborne e)).0 (free (unborne e)).1));
          «open» = λ a b. (λ q. clash (cc), λ r. absurd (r.0 (unborne e)));
          agreed = λ a. (λ q. clash (cc), λ r. absurd (r.0 (unborne e)));
        }
    judged-by true Nothing e (none f) =
        record {
          unsaid = (λ x. clash (cc), λ z. absurd (borne-by e z));
          impossible = (λ x. none_agrees_lem f, λ g. refl);
          «open» = λ a b. (λ x. clash (cc), λ r. absurd (none_agrees_lem f a r.1.is_first r.1.first_agrees));
          agreed = λ a. (λ x. clash (cc), λ r. absurd (none_agrees_lem f a r.1.is r.1.agrees));
        }
    judged-by true (One c) e (single l m q f) =
        let only : Only Is Agrees c = record { is = range-in c l m; agrees = agreeing c q; alone = one-agrees c f } in
        record {
          unsaid = (λ x. clash (cc), λ z. absurd (borne-by e z));
          impossible = (λ x. clash (cc), λ g. absurd (g c only.is only.agrees));
          «open» = λ a b. (
            λ x. clash (cc),
            λ r.
                let u = only.alone a r.1.is_first r.1.first_agrees in
                let v = only.alone b r.1.is_second r.1.second_agrees in
                absurd (omega (arith, r.1.earlier)),
          );
          agreed = λ a. (
            λ x. let s : c ≡ a = cc in (borne-by e, rw (← s) only),
            λ r. ap Agreed (r.1.alone c only.is only.agrees),
          );
        }
    judged-by true (Two c d) e (double l m o q r f) =
        let first : Earliest Is Agrees c d
        = record {
          is_first = range-in c l (omega arith);
          is_second = range-in d (omega arith) o;
          first_agrees = agreeing c q;
          second_agrees = agreeing d r;
          earlier = m;
          none_before = two-agree c d f;
        } in
        record {
          unsaid = (λ x. clash (cc), λ z. absurd (borne-by e z));
          impossible = (λ x. clash (cc), λ g. absurd (g c first.is_first first.first_agrees));
          «open» = λ a b. (
            λ x. let s : c ≡ a = cc in let t : d ≡ b = cc in (borne-by e, rw (← s, ← t) first),
            λ u. let s = same-two a b c d u.1 first in let v = s.0 in let w = s.1 in cc,
          );
          agreed = λ a. (
            λ x. clash (cc),
            λ u.
                let s = u.1.alone c first.is_first first.first_agrees in
                let t = u.1.alone d first.is_second first.second_agrees in
                absurd (omega arith),
          );
        }

    pub judged : Judged None Is Agrees (cond borne (verdict_of (first_two p from n)) Unsaid)
    judged = judged-by borne (first_two p from n) refl (tells p from n)

-- ---- the tests of the code's definitions say what agreement is

-- what was said of a kind, as a Boolean test and in words
agrees_suc : (n v : ℕ) → agrees (suc n) v ≡ eqb n v
unfolding agrees
agrees_suc n v =
    let e : suc n - 1 ≡ n = omega arith in
    rw (ne_eqb (suc n) 0 (λ (z : suc n ≡ 0). omega arith)) (ap (λ (x : ℕ). eqb x v) e)

agrees_is : (s v n : ℕ) → agrees s v ≡ true → s ≡ suc n → v ≡ n
agrees_is s v n e h = sym (eqb-true n v (sym (agrees_suc n v) ∙ rw h at e))

is_agrees : (s v : ℕ) → ((n : ℕ) → s ≡ suc n → v ≡ n) → agrees s v ≡ true
unfolding agrees
is_agrees zero v f = refl
is_agrees (suc n) v f = agrees_suc n v ∙ eq-eqb n v (sym (f n refl))

-- facts of some kinds
module _ (f : Facts) (ks : List ℕ) where
  none_said_lem : not (none_said f ks) ≡ false → NoneSaid f ks
  none_said_lem e k m = eqb-true (said f k) 0 (every_member (λ k. eqb (said f k) 0) ks (not-false _ e) k m)

  said-none : NoneSaid f ks → not (none_said f ks) ≡ false
  said-none z = ap not (member_every (λ k. eqb (said f k) 0) ks (λ k m. eq-eqb (said f k) 0 (z k m)))

  -- the values of a candidate
  module _ (value : ℕ → ℕ) where
    pub all_agree_lem : all_agree f ks value ≡ true → AllAgree f ks value
    all_agree_lem e k n m s = agrees_is (said f k) (value k) n (every_member (λ k. agrees (said f k) (value k)) ks e k m) s

    pub agree_all : AllAgree f ks value → all_agree f ks value ≡ true
    agree_all g = member_every (λ k. agrees (said f k) (value k)) ks (λ k m. is_agrees (said f k) (value k) (λ n. g k n m))

    none-disagrees : NoneSaid f ks → AllAgree f ks value
    none-disagrees z k n m s = absurd (omega (arith, z k m))

-- demand 3 for the day, and for the hour
pub day_judged : (f : Facts) → DayJudged f (day_verdict f)
unfolding day_verdict days_found day_borne day_agrees date_agrees
day_judged f =
    judged (NoDayFact f) IsDay (DayAgrees f) (day_agrees f) 1 days (day_borne f)
    (none_said_lem f day_kinds)
    (said-none f day_kinds)
    (λ k i. omega arith)
    (λ k l m. omega arith)
    (λ k. all_agree_lem f day_kinds (λ j. date_value j (date_of k)))
    (λ k. agree_all f day_kinds (λ j. date_value j (date_of k)))
    (λ z. ((lit≤ tt, omega (arith, days_is)), none-disagrees f day_kinds (λ j. date_value j (date_of 1)) z))

pub hour_judged : (f : Facts) → HourJudged f (hour_verdict f)
unfolding hour_verdict hour_borne hour_agrees
hour_judged f =
    judged (NoHourFact f) IsHour (HourAgrees f) (hour_agrees f) 0 24 (hour_borne f)
    (none_said_lem f hour_kinds)
    (said-none f hour_kinds)
    (λ h i. omega arith)
    (λ h l m. omega arith)
    (λ h. all_agree_lem f hour_kinds (λ j. hour_value j h))
    (λ h. agree_all f hour_kinds (λ j. hour_value j h))
    (λ z. (lit≤ tt, none-disagrees f hour_kinds (λ j. hour_value j 0) z))
