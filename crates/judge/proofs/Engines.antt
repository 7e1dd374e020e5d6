-- What an engine gives, for every engine: the verdict is that of the definition, 11 is a budget's that is too small, and the counts.
-- Assumes nothing.
use Prim.Native.Nat.{ℕ, ◌≤◌, ◌<◌}
use mathlib.Core.Bool.{Bool, true, false, not}
use mathlib.Core.Logic.{◌↔◌}
use mathlib.Core.Path.{◌≡◌, refl, sym, ap, ◌∙◌}
use native.Mathlib.Omega.{arith}
use borrow.Author.Tests.{le-leb, lt-leb, eq-eqb}
use lib.Dec.{eqb, leb}
use Rattle.laws.proofs.Cases.{either, clash}
use Rattle.calendar.specs.Calendar.{sum, days, date_of}
use Rattle.agreement.specs.Agreement.{said, day_borne}
use Rattle.agreement.specs.Demand.{NoDayFact, AllAgree}
use Rattle.agreement.specs.Search.{through}
use Rattle.agreement.specs.Verdicts.{verdict_of, days_found, day_verdict}
use Rattle.agreement.specs.declared.Facts.{Facts}
use Rattle.agreement.specs.declared.Found.{Found}
use Rattle.agreement.specs.declared.Found.TheVariants.{Nothing, One, Two}
use Rattle.agreement.specs.declared.Verdict.{Verdict}
use Rattle.agreement.specs.declared.Verdict.TheVariants.{Unsaid, Open}
use Rattle.judge.specs.Engines.{last_examined, plain_count, month_kinds, month_agrees, month_days, skipping_count, counted}
use Rattle.judge.specs.Engines.{plain_searched, searched}
use Rattle.judge.specs.declared.Engine.{Engine}
use Rattle.judge.specs.declared.Engine.TheVariants.{Skipping, Plain, Within}
use Rattle.kinds.specs.Kinds.{day_kinds}
use Rattle.values.specs.Values.{date_value}
use Rattle.agreement.proofs.Demand.{day_judged, all_agree_lem, agree_all}
use Rattle.agreement.proofs.Every.{member_every}
use Rattle.std.specs.Prelude.{Err, Ok, Result}
use Rattle.judge.specs.Engines.{judged_by, over_by}
use Rattle.judge.specs.declared.Judged.{Judged}
use Rattle.judge.specs.declared.OverBudget.{OverBudget}

-- two answers that are one have one verdict and one count, or one budget
pub same_judged : {v w : Verdict} {n m : ℕ} → ◌≡◌ {A = Result Judged OverBudget} (Ok (judged_by v n)) (Ok (judged_by w m)) → (v ≡ w)
    × (n ≡ m)
same_judged {v} {w} {n} {m} e =
    let j : judged_by v n ≡ judged_by w m = cc in
    (ap (λ (x : Judged). x.verdict) j, ap (λ (x : Judged). x.examined) j)

same_budget : {a b : ℕ} → ◌≡◌ {A = Result Judged OverBudget} (Err (over_by a)) (Err (over_by b)) → a ≡ b
same_budget {a} {b} e = let o : over_by a ≡ over_by b = cc in ap (λ (x : OverBudget). x.budget) o

-- every engine's verdict is that of the definition
pub searched_verdict : (e : Engine) (f : Facts) {v : Verdict} {n : ℕ} → searched e f ≡ Ok (judged_by v n) → v ≡ day_verdict f
unfolding searched plain_searched
searched_verdict Skipping f q = sym (same_judged q).0
searched_verdict Plain f q = sym (same_judged q).0
searched_verdict (Within b) f {v} {n} q =
    either (λ (x : Result Judged OverBudget). x ≡ Ok (judged_by v n) → v ≡ day_verdict f) (leb (counted f (plain_count f)) b)
    (λ _ z. sym (same_judged z).0) (λ _ z. clash (cc)) q

-- only a budget is too small, and it is the one that is told
pub searched_over : (e : Engine) (f : Facts) {b : ℕ} → searched e f ≡ Err (over_by b) → e ≡ Within b
unfolding searched plain_searched
searched_over Skipping f q = clash (cc)
searched_over Plain f q = clash (cc)
searched_over (Within a) f {b} q =
    either (λ (x : Result Judged OverBudget). x ≡ Err (over_by b) → Within a ≡ Within b) (leb (counted f (plain_count f)) a)
    (λ _ z. clash (cc)) (λ _ z. ap Within (same_budget z)) q

-- without a budget there is a verdict
unbounded : (e : Engine) (f : Facts) → ((b : ℕ) → e ≡ Within b → ⊥) → (n : ℕ) × (searched e f ≡ Ok (judged_by (day_verdict f) n))
unbounded e f free = go (searched e f) refl
  where
    go : (x : Result Judged OverBudget) → searched e f ≡ x → (n : ℕ) × (searched e f ≡ Ok (judged_by (day_verdict f) n))
    go (Ok j) q = (j.examined, q ∙ ap (λ (x : Verdict). Ok (judged_by x j.examined)) (searched_verdict e f q))
    go (Err o) q = absurd (free o.budget (searched_over e f q))

pub by_skipping : (f : Facts) → (n : ℕ) × (searched Skipping f ≡ Ok (judged_by (day_verdict f) n))
by_skipping f = unbounded Skipping f (λ b q. clash (cc))

pub by_plain : (f : Facts) → (n : ℕ) × (searched Plain f ≡ Ok (judged_by (day_verdict f) n))
by_plain f = unbounded Plain f (λ b q. clash (cc))

-- none is examined where no fact bears on the day
not_borne : (f : Facts) → NoDayFact f → day_borne f ≡ false
unfolding day_borne
not_borne f z = ap not (member_every (λ k. eqb (said f k) 0) day_kinds (λ k m. eq-eqb (said f k) 0 (z k m)))

pub none_examined : (e : Engine) (f : Facts) → NoDayFact f → searched e f ≡ Ok (judged_by Unsaid 0)
unfolding searched plain_searched counted day_verdict
none_examined Skipping f z = rw (not_borne f z)
none_examined Plain f z = rw (not_borne f z)
none_examined (Within b) f z = rw (not_borne f z, le-leb 0 b (omega arith))

-- with a budget that is not smaller than the count of the plain engine nothing changes, and a smaller one is told
module _ (f : Facts) (b : ℕ) {v : Verdict} {n : ℕ} (q : searched Plain f ≡ Ok (judged_by v n)) where
  plain-count : counted f (plain_count f) ≡ n
  unfolding searched plain_searched
  plain-count = (same_judged q).1

  pub enough : n ≤ b → searched (Within b) f ≡ Ok (judged_by v n)
  unfolding searched
  enough h = rw (plain-count, le-leb n b h) q

  pub too_small : b < n → searched (Within b) f ≡ Err (over_by b)
  unfolding searched
  too_small h = rw (plain-count, lt-leb n b h)

-- ---- the counts

-- the plain engine's is through the second day that agrees
pub plain_two : (f : Facts) {a b : ℕ} → day_verdict f ≡ Open a b → searched Plain f ≡ Ok (judged_by (Open a b) b)
unfolding searched plain_searched plain_count last_examined counted day_verdict verdict_of through
plain_two f {a} {b} q = go (day_borne f) refl (days_found f) refl
  where
    go : (x : Bool) → day_borne f ≡ x → (h : Found) → days_found f ≡ h → searched Plain f ≡ Ok (judged_by (Open a b) b)
    go false e h g = let z = rw e at q in clash (cc)
    go true e Nothing g = let z = rw (e, g) at q in clash (cc)
    go true e (One c) g = let z = rw (e, g) at q in clash (cc)
    go true e (Two c d) g = let z = rw (e, g) at q in rw (e, g) (cc)

-- or else over all days
pub plain_all : (f : Facts) → (day_verdict f ≡ Unsaid → ⊥) → ((a b : ℕ) → day_verdict f ≡ Open a b → ⊥)
    → searched Plain f ≡ Ok (judged_by (day_verdict f) days)
unfolding searched plain_searched plain_count last_examined counted day_verdict verdict_of through
plain_all f said one = go (day_borne f) refl (days_found f) refl
  where
    go : (x : Bool) → day_borne f ≡ x → (h : Found) → days_found f ≡ h → searched Plain f ≡ Ok (judged_by (day_verdict f) days)
    go false e h g = absurd (said (rw e))
    go true e Nothing g = rw (e, g)
    go true e (One c) g = rw (e, g)
    go true e (Two c d) g = absurd (one c d (rw (e, g)))

-- the skipping engine's is over the days that agree with kinds 1 to 4, through the last that the plain one examines
pub skipping_count_lem : (f : Facts) {v : Verdict} {n : ℕ} → searched Plain f ≡ Ok (judged_by v n) → searched Skipping f
    ≡ Ok (judged_by v (month_days f n))
unfolding searched plain_searched plain_count skipping_count counted month_days sum
skipping_count_lem f {v} {n} q = go (day_borne f) refl
  where
    go : (x : Bool) → day_borne f ≡ x → searched Skipping f ≡ Ok (judged_by v (month_days f n))
    go false e =
        let z = same_judged (rw e at q) in
        rw (e, sym z.0, sym z.1)
    go true e =
        let z = same_judged (rw e at q) in
        rw (e, sym z.0, sym z.1)

-- it is at most the days of the calendar
pub plain_most : (f : Facts) {v : Verdict} {n : ℕ} → searched Plain f ≡ Ok (judged_by v n) → n ≤ days
unfolding searched plain_searched plain_count last_examined counted day_verdict verdict_of through
plain_most f {v} {n} q = go (day_borne f) refl (days_found f) refl
  where
    go : (x : Bool) → day_borne f ≡ x → (h : Found) → days_found f ≡ h → n ≤ days
    go false e h g = omega (arith, (same_judged (rw e at q)).1)
    go true e Nothing g = omega (arith, (same_judged (rw (e, g) at q)).1)
    go true e (One c) g = omega (arith, (same_judged (rw (e, g) at q)).1)
    go true e (Two c d) g =
        omega (arith, (same_judged (rw (e, g) at q)).1, (((day_judged f).«open» c d).0 (rw (e, g))).1.is_second.1)

-- the year and the month of a day agree with the facts of kinds 1 to 4, in words
pub month_agrees_lem : (f : Facts) (k : ℕ) → (month_agrees f k ≡ true) ↔ AllAgree f month_kinds (λ j. date_value j (date_of k))
unfolding month_agrees
month_agrees_lem f k =
    (all_agree_lem f month_kinds (λ j. date_value j (date_of k)), agree_all f month_kinds (λ j. date_value j (date_of k)))
