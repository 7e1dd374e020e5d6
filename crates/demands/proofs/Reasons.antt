-- Why a reading is refused by 9 or 10: by every engine, for every format and text.
-- Assumes nothing.
use Prim.Native.Nat.{ℕ, ◌≤◌, ◌<◌}
use mathlib.Core.Bool.{Bool, true, false, true≢false}
use mathlib.Core.List.{List}
use mathlib.Core.Logic.{◌⊎◌, inl, inr, ⊎_elim}
use mathlib.Core.Path.{◌≡◌, refl, sym, ap, ◌∙◌}
use native.Mathlib.Decide.{ℕ_discrete}
use native.Mathlib.Omega.{arith}
use borrow.Author.Tests.{le-leb, eq-eqb, ne_eqb}
use lib.ListN.{length, get_or}
use Rattle.calendar.specs.Calendar.{date, date_of, day_number}
use Rattle.calendar.specs.declared.Date.{Date}
use Rattle.calendar.proofs.Dates.{number_of_date}
use Rattle.conversions.specs.Conversions.{among}
use Rattle.format.specs.Opening.{Whole, opening, closed, opened, longest}
use Rattle.format.specs.declared.opening.Side.TheVariants.{Reader}
use Rattle.agreement.specs.Demand.{IsDay, IsHour}
use Rattle.agreement.specs.Verdicts.{day_verdict, hour_verdict}
use Rattle.agreement.specs.declared.Facts.{Facts}
use Rattle.agreement.specs.declared.Verdict.{Verdict}
use Rattle.agreement.specs.declared.Verdict.TheVariants.{Unsaid, Impossible, Open, Agreed}
use Rattle.judge.specs.declared.Engine.{Engine}
use Rattle.agreement.proofs.Demand.{day_judged, hour_judged}
use Rattle.kinds.specs.Kinds.{day_kinds, hour_kinds}
use Rattle.laws.proofs.Cases.{clash}
use Rattle.matching.specs.Extents.{nowhere}
use Rattle.matching.specs.declared.State.{State}
use Rattle.reasons.specs.Quarrels.{kinds_of, none_agrees}
use Rattle.reasons.specs.Reasons.{differing, open_reason, about, reason_of, facts_in, words_for, explained, format_elements, explained_by}
use Rattle.reasons.specs.declared.About.{About}
use Rattle.reasons.specs.declared.About.TheVariants.{Day as TheDay, Hour as TheHour}
use Rattle.reasons.specs.declared.Part.{Part}
use Rattle.reasons.proofs.Minimal.{Candidate, value_of, some_agrees}
use Rattle.reasons.proofs.Named.{no_word}
use Rattle.strptime.specs.Answers.{showing, refused, finished, naming, examining, done, with_hour, with_day, reading_by}
use Rattle.strptime.specs.declared.Reading.{Reading}
use Rattle.strptime.proofs.Opened.{read_by_elements}
use Rattle.demands.specs.Demand.{before_nine}
use Rattle.demands.specs.Engines.{SameBut}
use Rattle.demands.specs.Facts.{Matched}
use Rattle.demands.specs.Reasons.{FirstDiffers, Quarrels, Reasons}
use Rattle.demands.specs.Writes.{on_day, at_hour}
use Rattle.demands.proofs.Demand.{day_kind, hour_kind}
use Rattle.demands.proofs.Engines.{verdicts, judged_or, engines}
use Rattle.demands.proofs.Matched.{read, Before, matched_or_before, matched_is}
use Rattle.demands.proofs.Quarrels.{quarrels}
use Rattle.demands.proofs.Verdicts.{day_none, then_none}
use Rattle.demands.proofs.Written.{day_would, hour_would}
use Rattle.std.specs.Prelude.{None, Option, Some}
use Rattle.reasons.specs.declared.Reason.TheVariants.{Differ, Hours, Quarrel}
use Rattle.reasons.specs.declared.Reason.{Reason}
use Rattle.strptime.specs.declared.Shown.TheVariants.{Days, Hours as TwoHours}
use Rattle.strptime.specs.declared.Shown.{Shown}

-- ---- the reason by a reading's number
module _ (r : Reading) where
  reason-none : (r.number ≡ 9 → ⊥) → (r.number ≡ 10 → ⊥) → reason_of r ≡ None
  unfolding reason_of
  reason-none a b = rw (ne_eqb r.number 9 a, ne_eqb r.number 10 b)

  reason-nine : r.number ≡ 9 → reason_of r ≡ Some (Quarrel (about r.place))
  unfolding reason_of
  reason-nine e = rw e

  reason-ten : r.number ≡ 10 → reason_of r ≡ open_reason r.shown
  unfolding reason_of
  reason-ten e = rw e

-- where it is no quarrel there are no words
unworded : (x : Option Reason) (es s : List ℕ) (k : ℕ)
    → ((a : About) → x ≡ Some (Quarrel a) → ⊥) → get_or (words_for x es s) k nowhere ≡ nowhere
unfolding words_for
unworded None es s k d = no_word k
unworded (Some (Quarrel a)) es s k d = absurd (d a refl)
unworded (Some (Differ p)) es s k d = no_word k
unworded (Some (Hours a b)) es s k d = no_word k

open_quarrel : (x : Option Shown) (a : About) → open_reason x ≡ Some (Quarrel a) → ⊥
unfolding open_reason
open_quarrel None a e = clash (cc)
open_quarrel (Some (Days x y)) a e = clash (cc)
open_quarrel (Some (TwoHours x y)) a e = clash (cc)

-- ---- the first part that differs
differs : (x y : Date) → (x ≡ y → ⊥) → FirstDiffers (differing x y) x y
unfolding differing FirstDiffers
differs x y d = go (ℕ_discrete x.year y.year) (ℕ_discrete x.month y.month) (ℕ_discrete x.day y.day)
  where
    go : Dec (x.year ≡ y.year) → Dec (x.month ≡ y.month) → Dec (x.day ≡ y.day) → FirstDiffers (differing x y) x y
    go (no a) m t = rw (ne_eqb x.year y.year a) a
    go (yes a) (no b) t = rw (eq-eqb x.year y.year a, ne_eqb x.month y.month b) (a, b)
    go (yes a) (yes b) (no c) = rw (eq-eqb x.year y.year a, eq-eqb x.month y.month b) (a, b, c)
    go (yes a) (yes b) (yes c) =
        let same : date x.year x.month x.day ≡ date y.year y.month y.day = cc in
        absurd (d same)

-- dates of two days differ
dates_differ : (a b : ℕ) → IsDay a → IsDay b → a < b → date_of a ≡ date_of b → ⊥
dates_differ a b p q l e =
    let same : a ≡ b = sym (number_of_date a p.0 p.1).number
    ∙ ap (λ (x : Date). day_number x.year x.month x.day) e
    ∙ (number_of_date b q.0 q.1).number in
    omega arith

-- ---- what two verdicts show
module _ (t : State) where
  hour-shown : (d : Option Date) (w : Verdict) → (with_hour t d w).number ≡ 10
      → (a : ℕ) × (b : ℕ) × ((with_hour t d w).shown ≡ Some (TwoHours a b))
  unfolding with_hour done finished refused showing
  hour-shown d Unsaid e = absurd (omega arith)
  hour-shown d Impossible e = absurd (omega arith)
  hour-shown d (Open a b) e = (a, b, refl)
  hour-shown d (Agreed h) e = absurd (omega arith)

  -- 10 shows two days, or two hours
  ten-shown : (v w : Verdict) → (with_day t v w).number ≡ 10
      → ((x : Date) × (y : Date) × ((with_day t v w).shown ≡ Some (Days x y)))
      ⊎ ((a : ℕ) × (b : ℕ) × ((with_day t v w).shown ≡ Some (TwoHours a b)))
  unfolding with_day refused showing
  ten-shown Unsaid w e = inr (hour-shown _ w e)
  ten-shown Impossible w e = absurd (omega arith)
  ten-shown (Open a b) w e = inl (date_of a, date_of b, refl)
  ten-shown (Agreed k) w e = inr (hour-shown _ w e)

  hour-days : (d : Option Date) (w : Verdict) (x y : Date) → (with_hour t d w).shown ≡ Some (Days x y) → ⊥
  unfolding with_hour done finished refused showing
  hour-days d Unsaid x y e = clash (cc)
  hour-days d Impossible x y e = clash (cc)
  hour-days d (Open a b) x y e = clash (cc)
  hour-days d (Agreed h) x y e = clash (cc)

  -- two days are those of an open verdict
  days-open : (v w : Verdict) (x y : Date) → (with_day t v w).shown ≡ Some (Days x y)
      → (a : ℕ) × (b : ℕ) × (v ≡ Open a b) × (x ≡ date_of a) × (y ≡ date_of b)
  unfolding with_day refused showing
  days-open Unsaid w x y e = absurd (hour-days _ w x y e)
  days-open Impossible w x y e = clash (cc)
  days-open (Open a b) w x y e = (a, b, refl, (cc), (cc))
  days-open (Agreed k) w x y e = absurd (hour-days _ w x y e)

-- ---- facts that no candidate agrees with

impossible_day : (f : Facts) → day_verdict f ≡ Impossible → none_agrees TheDay f ≡ true
unfolding Candidate value_of kinds_of
impossible_day f v = go (none_agrees TheDay f) refl
  where
    go : (b : Bool) → none_agrees TheDay f ≡ b → b ≡ true
    go true e = refl
    go false e = let r = some_agrees TheDay f e in absurd ((day_judged f).impossible.0 v r.0 r.1 r.2)

impossible_hour : (f : Facts) → hour_verdict f ≡ Impossible → none_agrees TheHour f ≡ true
unfolding Candidate value_of kinds_of
impossible_hour f v = go (none_agrees TheHour f) refl
  where
    go : (b : Bool) → none_agrees TheHour f ≡ b → b ≡ true
    go true e = refl
    go false e = let r = some_agrees TheHour f e in absurd ((hour_judged f).impossible.0 v r.0 r.1 r.2)

-- ---- a text that was refused before its day was judged
module _ (e : Engine) (f s : List ℕ) (b : Before f s) where
  abbrev Not : ℕ → Type 0
  Not n = (reading_by e f s).number ≡ n → ⊥

  early-not : (n : ℕ) → among n before_nine ≡ false → Not n
  unfolding refused showing
  early-not n x q =
      let same : b.number ≡ n = rw (b.refuses e) at q in
      true≢false (sym b.early ∙ ap (λ (i : ℕ). among i before_nine) same ∙ x)

-- ---- a matched text

-- its format opens to its elements
whole_elements : (f : List ℕ) → length f ≤ longest → (opening Reader f).ended ≡ Whole → format_elements f ≡ (opening Reader f).elements
unfolding format_elements opened closed
whole_elements f short whole = rw (le-leb (length f) longest short, whole)

matched_elements : (f s : List ℕ) → Matched f s → format_elements f ≡ (opening Reader f).elements
matched_elements f s m = whole_elements f m.format_short m.format_whole

module _ (e : Engine) (f s : List ℕ) (m : Matched f s) where
  abbrev state : State
  state = (read f s).state

  -- with a number other than 11 it is read by the two verdicts
  by-verdicts : ((reading_by e f s).number ≡ 11 → ⊥)
      → (n : ℕ) × (reading_by e f s ≡ naming (read f s).forms (examining n (verdicts state)))
  unfolding naming
  by-verdicts d =
      ⊎_elim
      (λ r. (r.0, matched_is f s e m ∙ ap (naming (read f s).forms) r.1))
      (λ q. absurd (d (rw (matched_is f s e m) q)))
      (judged_or state e)

  -- the words of a 9
  worded : (a : About) → reason_of (reading_by e f s) ≡ Some (Quarrel a)
      → (explained_by e f s).words ≡ words_for (Some (Quarrel a)) (opening Reader f).elements s
  unfolding explained
  worded a q = rw (q, matched_elements f s m)

  -- 9 for the day
  quarrel-day : (reading_by e f s).number ≡ 9 → (reading_by e f s).place ≡ 1
      → ((explained_by e f s).reason ≡ Some (Quarrel TheDay)) × Quarrels e f s day_kinds IsDay on_day
  unfolding explained about naming examining Candidate value_of kinds_of facts_in words_for
  quarrel-day p q =
      let r = by-verdicts (λ z. omega arith) in
      let why : reason_of (reading_by e f s) ≡ Some (Quarrel TheDay) = reason-nine (reading_by e f s) p ∙ rw q in
      let v = (day_none state (day_verdict state.facts) (hour_verdict state.facts)).0 (rw r.1 at p, rw r.1 at q) in (
        why,
        quarrels TheDay e f s m on_day
            (λ d i k n b. let w = day_kind k b in day_would d i.0 i.1 k n w.0 w.1)
            (impossible_day state.facts v)
            (worded TheDay why),
      )

  -- 9 for the hour
  quarrel-hour : (reading_by e f s).number ≡ 9 → (reading_by e f s).place ≡ 2
      → ((explained_by e f s).reason ≡ Some (Quarrel TheHour)) × Quarrels e f s hour_kinds IsHour at_hour
  unfolding explained about naming examining Candidate value_of kinds_of facts_in words_for
  quarrel-hour p q =
      let r = by-verdicts (λ z. omega arith) in
      let why : reason_of (reading_by e f s) ≡ Some (Quarrel TheHour) = reason-nine (reading_by e f s) p ∙ rw q in
      let v = ((then_none state (day_verdict state.facts) (hour_verdict state.facts)).0 (rw r.1 at p, rw r.1 at q)).1 in (
        why,
        quarrels TheHour e f s m at_hour
            (λ h i k n b. let w = hour_kind k b in hour_would h i k n w.0 w.1)
            (impossible_hour state.facts v)
            (worded TheHour why),
      )

  -- 10 for the day
  differ-days : (x y : Date) → (reading_by e f s).number ≡ 10 → (reading_by e f s).shown ≡ Some (Days x y)
      → (p : Part) × ((explained_by e f s).reason ≡ Some (Differ p)) × FirstDiffers p x y
  unfolding explained open_reason naming examining
  differ-days x y p q =
      let r = by-verdicts (λ z. omega arith) in
      let o = days-open state (day_verdict state.facts) (hour_verdict state.facts) x y (rw r.1 at q) in
      let j = (((day_judged state.facts).«open» o.0 o.1).0 o.2).1 in
      let apart : x ≡ y → ⊥ = λ z.
      dates_differ o.0 o.1 j.is_first j.is_second j.earlier (sym o.3 ∙ z ∙ o.4) in
      (differing x y, reason-ten (reading_by e f s) p ∙ rw q, differs x y apart)

  -- 10 shows something
  ten-reason : (reading_by e f s).number ≡ 10 → reason_of (reading_by e f s) ≡ None → ⊥
  unfolding open_reason naming examining
  ten-reason p z =
      let r = by-verdicts (λ y. omega arith) in
      let o : open_reason (reading_by e f s).shown ≡ None = sym (reason-ten (reading_by e f s) p) ∙ z in
      ⊎_elim
      (λ x. let i = rw (r.1, x.2) at o in clash (cc))
      (λ x. let i = rw (r.1, x.2) at o in clash (cc))
      (ten-shown state (day_verdict state.facts) (hour_verdict state.facts) (rw r.1 at p))

-- ---- every text
module _ (e : Engine) (f s : List ℕ) where
  both_ways : {A : Type 0} → (Matched f s → A) → (Before f s → A) → A
  both_ways a b = ⊎_elim a b (matched_or_before f s)

  same-reason : {r q : Reading} → SameBut r q → reason_of r ≡ reason_of q
  unfolding reason_of
  same-reason x = rw (x.number, x.place, x.shown)

  pub reasons : Reasons e f s
  unfolding explained open_reason among
  reasons =
      record {
        none = (
          λ z. (
            λ p. clash (cc (reason-nine (reading_by e f s) p)),
            λ p. both_ways (λ m. ten-reason e f s m p z) (λ b. early-not e f s b 10 refl p),
          ),
          λ d. reason-none (reading_by e f s) d.0 d.1,
        );
        no_words_lem = λ d k. unworded (reason_of (reading_by e f s)) (format_elements f) s k (no-quarrel d);
        no_day = λ p q. both_ways (λ m. quarrel-day e f s m p q) (λ b. absurd (early-not e f s b 9 refl p));
        no_hour = λ p q. both_ways (λ m. quarrel-hour e f s m p q) (λ b. absurd (early-not e f s b 9 refl p));
        two_days = λ x y p q. both_ways (λ m. differ-days e f s m x y p q) (λ b. absurd (early-not e f s b 10 refl p));
        two_hours = λ a b p q. reason-ten (reading_by e f s) p ∙ rw q;
        same = λ d. let x = same-reason ((engines f s).same e d) in rw x;
        by_elements_lem = λ short bytes whole. rw (read_by_elements e f short bytes whole s, whole_elements f short whole);
      }
    where
      no-quarrel : ((reading_by e f s).number ≡ 9 → ⊥) → (a : About) → reason_of (reading_by e f s) ≡ Some (Quarrel a) → ⊥
      no-quarrel d a q = go (ℕ_discrete (reading_by e f s).number 10)
        where
          go : Dec ((reading_by e f s).number ≡ 10) → ⊥
          go (yes p) = open_quarrel (reading_by e f s).shown a (sym (reason-ten (reading_by e f s) p) ∙ q)
          go (no p) = clash (cc (reason-none (reading_by e f s) d p))
