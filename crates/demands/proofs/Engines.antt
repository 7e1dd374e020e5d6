-- The engines and the budget: which readings are the same with all of them, and when 11 comes back.
-- Assumes nothing.
use Prim.Native.Nat.{ℕ, ◌≤◌, ◌<◌}
use mathlib.Core.List.{List}
use mathlib.Core.Logic.{◌⊎◌, inl, inr, ⊎_elim}
use mathlib.Core.Path.{◌≡◌, refl, sym, ap, ◌∙◌}
use native.Mathlib.Decide.{dec_le}
use native.Mathlib.Nat.{lt_of_not-le}
use native.Mathlib.Omega.{arith}
use Rattle.laws.proofs.Cases.{clash}
use Rattle.kinds.specs.Kinds.{day_kinds}
use Rattle.agreement.specs.Verdicts.{day_verdict, hour_verdict}
use Rattle.agreement.specs.declared.Facts.{Facts}
use Rattle.agreement.specs.declared.Verdict.{Verdict}
use Rattle.judge.specs.Engines.{searched}
use Rattle.judge.specs.declared.Engine.{Engine}
use Rattle.judge.specs.declared.Engine.TheVariants.{Skipping, Plain, Within}
use Rattle.judge.proofs.Engines as judge
use Rattle.judge.proofs.Engines.{searched_verdict, by_skipping, by_plain}
use Rattle.strptime.specs.Answers.{showing, refused, naming, examining, over_budget, with_day, with_searched, judged, reading_by, reading}
use Rattle.strptime.specs.declared.Reading.{Reading}
use Rattle.matching.specs.declared.State.{State}
use Rattle.demands.specs.Demand.{NoneSaid}
use Rattle.demands.specs.Engines.{OneVerdict, SameBut, refused_at, plain_days, Engines}
use Rattle.demands.specs.Facts.{Matched}
use Rattle.demands.proofs.Demand.{none_kept}
use Rattle.demands.proofs.Matched.{read, Before, matched_or_before, matched_is}
use Rattle.demands.proofs.Rows.{reading_rows}
use Rattle.std.specs.Prelude.{Err, Ok, Result}
use Rattle.judge.specs.Engines.{judged_by, over_by}
use Rattle.judge.specs.declared.Judged.{Judged}
use Rattle.judge.specs.declared.OverBudget.{OverBudget}

-- one verdict on every set of facts
pub one_verdict : (x : Facts) → OneVerdict x
one_verdict x = (day_verdict x, (by_skipping x).0, (by_plain x).0, (by_skipping x).1, (by_plain x).1)

-- ---- a judging, by what the engine gives
module _ (t : State) where
  -- the same by every engine, but for the days examined
  abbrev pub verdicts : Reading
  verdicts = with_day t (day_verdict t.facts) (hour_verdict t.facts)

  judged-is : (e : Engine) {v : Verdict} {n : ℕ} → searched e t.facts ≡ Ok (judged_by v n) → judged e t ≡ examining n verdicts
  unfolding judged with_searched
  judged-is e q = let p = searched_verdict e t.facts q in rw (q, p)

  over-is : (e : Engine) {b : ℕ} → searched e t.facts ≡ Err (over_by b) → judged e t ≡ over_budget b
  unfolding judged with_searched
  over-is e q = rw q

  -- either a verdict, or 11
  pub judged_or : (e : Engine) → ((n : ℕ) × (judged e t ≡ examining n verdicts)) ⊎ ((judged e t).number ≡ 11)
  unfolding over_budget examining refused showing
  judged_or e = go (searched e t.facts) refl
    where
      go : (x : Result Judged OverBudget) → searched e t.facts ≡ x
          → ((n : ℕ) × (judged e t ≡ examining n verdicts)) ⊎ ((judged e t).number ≡ 11)
      go (Ok j) q = inl (j.examined, judged-is e q)
      go (Err o) q = inr (rw (over-is e q))

-- ---- a text that was refused before its day was judged
module _ (f s : List ℕ) (w : Before f s) where
  before_same : (e d : Engine) → reading_by e f s ≡ reading_by d f s
  before_same e d = w.refuses e ∙ sym (w.refuses d)

  before-none : (e : Engine) → (reading_by e f s).examined ≡ 0
  unfolding refused showing
  before-none e = rw (w.refuses e)

-- ---- a text that is matched
module _ (f s : List ℕ) (m : Matched f s) where
  abbrev pub kept : Facts
  kept = (read f s).state.facts

  -- by an engine that gives a verdict
  pub read_is : (e : Engine) {v : Verdict} {n : ℕ} → searched e kept ≡ Ok (judged_by v n)
      → reading_by e f s ≡ naming (read f s).forms (examining n (verdicts (read f s).state))
  read_is e q = matched_is f s e m ∙ ap (naming (read f s).forms) (judged-is (read f s).state e q)

  pub plain_days_lem : plain_days f s ≡ (by_plain kept).0
  unfolding naming examining
  plain_days_lem = ap (λ (r : Reading). r.examined) (read_is Plain (by_plain kept).1)

  matched-same : (e : Engine) → ((reading_by e f s).number ≡ 11 → ⊥) → SameBut (reading_by e f s) (reading f s)
  unfolding naming examining
  matched-same e free =
      ⊎_elim
      (λ r.
      rw (matched_is f s e m, r.1, read_is Skipping (by_skipping kept).1)
      (record {
        number = refl;
        place = refl;
        day = refl;
        hour = refl;
        minute = refl;
        second = refl;
        offset = refl;
        forms = refl;
        shown = refl;
      }))
      (λ q. absurd (free (rw (matched_is f s e m) q)))
      (judged_or (read f s).state e)

  matched-unborne : (e : Engine) → NoneSaid f s day_kinds → (reading_by e f s).examined ≡ 0
  unfolding naming examining
  matched-unborne e z = rw (read_is e (judge.none_examined e kept (none_kept f s m day_kinds z)))

  matched-enough : (b : ℕ) → plain_days f s ≤ b → reading_by (Within b) f s ≡ reading_by Plain f s
  matched-enough b h =
      let p = (by_plain kept).1 in
      read_is (Within b) (judge.enough kept b p (omega (arith, plain_days_lem, h))) ∙ sym (read_is Plain p)

  matched-too-small : (b : ℕ) → b < plain_days f s → reading_by (Within b) f s ≡ refused_at b
  unfolding naming over_budget examining refused showing
  matched-too-small b h =
      matched_is f s (Within b) m
      ∙ ap (naming (read f s).forms)
      (over-is (read f s).state (Within b) (judge.too_small kept b (by_plain kept).1 (omega (arith, plain_days_lem, h))))

-- ---- every text
module _ (f s : List ℕ) where
  -- what holds both ways
  both_ways : {A : Type 0} → (Matched f s → A) → (Before f s → A) → A
  both_ways a b = ⊎_elim a b (matched_or_before f s)

  enough : (b : ℕ) → plain_days f s ≤ b → reading_by (Within b) f s ≡ reading_by Plain f s
  enough b h = both_ways (λ m. matched-enough f s m b h) (λ w. before_same f s w (Within b) Plain)

  too_small : (b : ℕ) → b < plain_days f s → reading_by (Within b) f s ≡ refused_at b
  too_small b h = both_ways (λ m. matched-too-small f s m b h) (λ w. absurd (omega (arith, before-none f s w Plain, h)))

  plain : (reading_by Plain f s).number ≡ 11 → ⊥
  plain q = let e = (reading_rows Plain f s).place_11 q in clash (cc)

  eleven-too-small : (b : ℕ) → (reading_by (Within b) f s).number ≡ 11 → b < plain_days f s
  eleven-too-small b q =
      elim (dec_le (plain_days f s) b) [
        | yes h ↦ absurd (plain (rw (enough b h) at q))
        | no h ↦ lt_of_not-le h
      ]

  too-small-eleven : (b : ℕ) → b < plain_days f s → (reading_by (Within b) f s).number ≡ 11
  too-small-eleven b h = rw (too_small b h)

  -- a budget with which it is not refused by 11 is enough
  was-enough : (b : ℕ) → ((reading_by (Within b) f s).number ≡ 11 → ⊥) → plain_days f s ≤ b
  was-enough b free =
      elim (dec_le (plain_days f s) b) [
        | yes h ↦ h
        | no h ↦ absurd (free (too-small-eleven b (lt_of_not-le h)))
      ]

  pub engines : Engines f s
  engines =
      record {
        same = λ e free. both_ways (λ m. matched-same f s m e free) (λ w. same-before e w);
        skipping = λ q. let e = (reading_rows Skipping f s).place_11 q in clash (cc);
        plain = plain;
        unborne = λ e z. both_ways (λ m. matched-unborne f s m e z) (λ w. before-none f s w e);
        refused_before = λ e. (reading_rows e f s).none_examined;
        eleven = λ b. (eleven-too-small b, too-small-eleven b);
        too_small = too_small;
        enough = enough;
        larger = λ b c l free.
            let h = was-enough b free in
            enough c (omega (arith, h, l)) ∙ sym (enough b h);
      }
    where
      same-before : (e : Engine) → Before f s → SameBut (reading_by e f s) (reading f s)
      same-before e w =
          rw (before_same f s w e Skipping)
          (record {
            number = refl;
            place = refl;
            day = refl;
            hour = refl;
            minute = refl;
            second = refl;
            offset = refl;
            forms = refl;
            shown = refl;
          })
