-- Demand 3: how a matched text is answered, by all the facts that it says and by what the writer would write.
-- Assumes nothing.
use Prim.Native.Nat.{ℕ, zero, suc, ◌-◌, ◌≤◌}
use mathlib.Core.Bool.{true, ◌&&◌, and-eq-true_iff}
use mathlib.Core.List.Memᴰ
use mathlib.Core.List.{List, [], ◌∷◌, Memᴰ as Member}
use mathlib.Core.Logic.{◌⊎◌, ◌↔◌, inl, inr, ⊎_elim}
use mathlib.Core.Path.{◌≡◌, refl, sym, ap, ◌∙◌}
use native.Mathlib.Decide.{ℕ_discrete}
use native.Mathlib.Omega.{arith}
use borrow.Author.Tests.{eq-eqb, ne_eqb, leb-true}
use lib.Dec.{leb}
use lib.IntN.{pos, ◌-ℤ◌}
use Rattle.laws.proofs.Cases.{clash}
use Rattle.laws.proofs.Lists.{every_member}
use Rattle.kinds.specs.Kinds.{day_kinds, hour_kinds, minute, second, zone_offset, computes}
use Rattle.laws.specs.Lists.{every}
use Rattle.calendar.specs.Calendar.{date_of, day_number}
use Rattle.calendar.specs.declared.Date.{Date}
use Rattle.calendar.proofs.Dates.{number_of_date}
use Rattle.agreement.specs.Agreement.{said}
use Rattle.agreement.specs.Demand.{NoneSaid as NoneKept, IsDay, IsHour, Only, Earliest, Judged}
use Rattle.agreement.specs.Verdicts.{day_verdict, hour_verdict}
use Rattle.agreement.specs.declared.Facts.{Facts}
use Rattle.agreement.specs.declared.Verdict.{Verdict}
use Rattle.agreement.specs.declared.Verdict.TheVariants.{Unsaid as NotSaid, Impossible, Open, Agreed}
use Rattle.judge.specs.declared.Engine.TheVariants.{Skipping}
use Rattle.agreement.proofs.Demand.{day_judged, hour_judged}
use Rattle.judge.proofs.Engines.{by_skipping}
use Rattle.values.specs.Offsets.{offset_number, offset_of}
use Rattle.demands.proofs.Offsets.{offset_none, offset_said, said_number, said_valid, back, offset_most}
use Rattle.strptime.specs.Answers.{naming, examining, said_of, with_day, with_searched, judged, reading}
use Rattle.demands.specs.Facts.{Fact, Says, facts, Matched}
use Rattle.demands.specs.Demand.{SomeSaid, NoneSaid, DayAgrees, HourAgrees, DayIs, HourIs, NumberIs, OffsetIs, DayStands, Answered}
use Rattle.demands.proofs.Matched.{read, matched_is, handed, ends_at, forms_are}
use Rattle.demands.proofs.Verdicts.{Leaves, LeavesHour, day_none, day_two, then_none, then_two, then_done, done_place}
use Rattle.demands.proofs.Written.{day_would, hour_would}
use Rattle.std.specs.Prelude.{None, Option, Some, ℕ, ℤ}

-- ---- the same words over other facts and another agreement

module _ {None None' : Type 0} {Some A A' : ℕ → Type 0} (to : None → None') (from : None' → None)
    (agrees : (k : ℕ) → Some k → A k → A' k) (agrees' : (k : ℕ) → Some k → A' k → A k) where
  only-over : (a : ℕ) → Only Some A a → Only Some A' a
  only-over a o =
      record { is = o.is; agrees = agrees a o.is o.agrees; alone = λ k i x. o.alone k i (agrees' k i x) }

  earliest-over : (a b : ℕ) → Earliest Some A a b → Earliest Some A' a b
  earliest-over a b e =
      record {
        is_first = e.is_first;
        is_second = e.is_second;
        first_agrees = agrees a e.is_first e.first_agrees;
        second_agrees = agrees b e.is_second e.second_agrees;
        earlier = e.earlier;
        none_before = λ k i x. e.none_before k i (agrees' k i x);
      }

module _ {None None' : Type 0} {Some A A' : ℕ → Type 0} (to : None → None') (from : None' → None)
    (agrees : (k : ℕ) → Some k → A k → A' k) (agrees' : (k : ℕ) → Some k → A' k → A k) where
  judged-over : (v : Verdict) → Judged None Some A v → Judged None' Some A' v
  judged-over v j =
      record {
        unsaid = (λ e. to (j.unsaid.0 e), λ z. j.unsaid.1 (from z));
        impossible = (
          λ e k i x. j.impossible.0 e k i (agrees' k i x),
          λ g. j.impossible.1 (λ k i x. g k i (agrees k i x)),
        );
        «open» = λ a b. (
          λ e. let r = (j.«open» a b).0 e in (λ z. r.0 (from z), earliest-over to from agrees agrees' a b r.1),
          λ r. (j.«open» a b).1 (λ z. r.0 (to z), earliest-over from to agrees' agrees a b r.1),
        );
        agreed = λ a. (
          λ e. let r = (j.agreed a).0 e in (λ z. r.0 (from z), only-over to from agrees agrees' a r.1),
          λ r. (j.agreed a).1 (λ z. r.0 (to z), only-over from to agrees' agrees a r.1),
        );
      }

-- ---- a fact of some kinds is said, or none is

member? : (k : ℕ) (ks : List ℕ) → Dec (Member k ks)
member? k [] = no (λ m. Memᴰ.not-nil m)
member? k (x ∷ ks) = go (ℕ_discrete k x) (member? k ks)
  where
    go : Dec (k ≡ x) → Dec (Member k ks) → Dec (Member k (x ∷ ks))
    go (yes e) m = yes (Member.head e)
    go (no e) (yes m) = yes (Member.tail m)
    go (no e) (no m) = no (λ n. ⊎_elim e m (Memᴰ.cases_cons n))

some_or_none : (ks : List ℕ) (xs : List Fact)
    → ((k : ℕ) × (n : ℕ) × Member k ks × Says xs k n) ⊎ ((k n : ℕ) → Member k ks → Says xs k n → ⊥)
unfolding Says
some_or_none ks [] = inr (λ k n m x. x)
some_or_none ks (x ∷ xs) =
    ⊎_elim (λ r. inl (r.0, r.1, r.2, inr r.3)) (λ none. go (member? x.kind ks) none) (some_or_none ks xs)
  where
    go : Dec (Member x.kind ks) → ((k n : ℕ) → Member k ks → Says xs k n → ⊥)
        → ((k : ℕ) × (n : ℕ) × Member k ks × Says (x ∷ xs) k n) ⊎ ((k n : ℕ) → Member k ks → Says (x ∷ xs) k n → ⊥)
    go (yes m) none = inl (x.kind, x.number, m, inl (refl, refl))
    go (no d) none = inr (λ k n m y. ⊎_elim (λ z. d (rw z.0 m)) (λ z. none k n m z) y)

-- kinds that bear on the day are 1 to 12, those on the hour 13 to 15
pub within : (a b : ℕ) (ks : List ℕ) → every (λ k. leb a k && leb k b) ks ≡ true → (k : ℕ) → Member k ks → (a ≤ k) × (k ≤ b)
within a b ks e k m =
    let t = (and-eq-true_iff (leb a k) (leb k b)).0 (every_member (λ k. leb a k && leb k b) ks e k m) in
    (leb-true a k t.0, leb-true k b t.1)

pub day_kind : (k : ℕ) → Member k day_kinds → (1 ≤ k) × (k ≤ 12)
day_kind = within 1 12 day_kinds (unfold computes every in refl)

pub hour_kind : (k : ℕ) → Member k hour_kinds → (13 ≤ k) × (k ≤ 15)
hour_kind = within 13 15 hour_kinds (unfold computes every in refl)

-- ---- a matched text

module _ (f s : List ℕ) (m : Matched f s) where
  abbrev kept : Facts
  kept = (read f s).state.facts

  -- no number is kept for some kinds exactly if no fact of them is said
  none_said : (ks : List ℕ) → NoneKept kept ks → NoneSaid f s ks
  none_said ks z k n i x = omega (arith, z k i, (handed f s m k n).1 x)

  pub none_kept : (ks : List ℕ) → NoneSaid f s ks → NoneKept kept ks
  none_kept ks z k i = go (said kept k) refl
    where
      go : (x : ℕ) → said kept k ≡ x → x ≡ 0
      go zero e = refl
      go (suc n) e = absurd (z k n i ((handed f s m k n).0 e))

  some-said : (ks : List ℕ) → (NoneSaid f s ks → ⊥) → SomeSaid f s ks
  some-said ks z = ⊎_elim (λ r. r) (λ none. absurd (z none)) (some_or_none ks (facts f s))

  pub not_none : (ks : List ℕ) → SomeSaid f s ks → NoneSaid f s ks → ⊥
  not_none ks r z = z r.0 r.1 r.2 r.3

  -- demand 3 of each verdict
  pub day_by : Judged (NoneSaid f s day_kinds) IsDay (DayAgrees f s) (day_verdict kept)
  day_by =
      judged-over (none_said day_kinds) (none_kept day_kinds)
      (λ d i g k n b x. let w = day_kind k b in (day_would d i.0 i.1 k n w.0 w.1).1 (g k n b ((handed f s m k n).1 x)))
      (λ d i g k n b x. let w = day_kind k b in (day_would d i.0 i.1 k n w.0 w.1).0 (g k n b ((handed f s m k n).0 x)))
      (day_verdict kept) (day_judged kept)

  pub hour_by : Judged (NoneSaid f s hour_kinds) IsHour (HourAgrees f s) (hour_verdict kept)
  hour_by =
      judged-over (none_said hour_kinds) (none_kept hour_kinds)
      (λ h i g k n b x. let w = hour_kind k b in (hour_would h i k n w.0 w.1).1 (g k n b ((handed f s m k n).1 x)))
      (λ h i g k n b x. let w = hour_kind k b in (hour_would h i k n w.0 w.1).0 (g k n b ((handed f s m k n).0 x)))
      (hour_verdict kept) (hour_judged kept)

  -- the day, the hour, the minute and the second that the facts give
  day-left : (v : Verdict) → Judged (NoneSaid f s day_kinds) IsDay (DayAgrees f s) v → (x : Option Date) → Leaves v x ↔ DayIs f s x
  day-left NotSaid j None = (λ e. j.unsaid.0 refl, λ z. refl)
  day-left NotSaid j (Some x) = (λ e. clash (cc), λ z. absurd (not_none day_kinds z.0 (j.unsaid.0 refl)))
  day-left Impossible j None = (λ e. absurd e, λ z. clash (cc (j.unsaid.1 z)))
  day-left Impossible j (Some x) = (λ e. absurd e, λ z. absurd (j.impossible.0 refl z.1.0 z.1.2.is z.1.2.agrees))
  day-left (Open a b) j None = (λ e. absurd e, λ z. clash (cc (j.unsaid.1 z)))
  day-left (Open a b) j (Some x) = (λ e. absurd e, λ z. clash (cc ((j.agreed z.1.0).1 (not_none day_kinds z.0, z.1.2))))
  day-left (Agreed k) j None = (λ e. clash (cc), λ z. clash (cc (j.unsaid.1 z)))
  day-left (Agreed k) j (Some x) = (
    λ e. let r = (j.agreed k).0 refl in (some-said day_kinds r.0, (k, (cc), r.1)),
    λ z.
        let q = (j.agreed z.1.0).1 (not_none day_kinds z.0, z.1.2) in
        let d : k ≡ z.1.0 = cc in
        ap Some (z.1.1 ∙ ap date_of (sym d)),
  )

  hour-left : (w : Verdict) → Judged (NoneSaid f s hour_kinds) IsHour (HourAgrees f s) w → (h : Option ℕ) → LeavesHour w h ↔ HourIs f s h
  hour-left NotSaid j None = (λ e. j.unsaid.0 refl, λ z. refl)
  hour-left NotSaid j (Some h) = (λ e. clash (cc), λ z. absurd (not_none hour_kinds z.0 (j.unsaid.0 refl)))
  hour-left Impossible j None = (λ e. absurd e, λ z. clash (cc (j.unsaid.1 z)))
  hour-left Impossible j (Some h) = (λ e. absurd e, λ z. absurd (j.impossible.0 refl h z.1.is z.1.agrees))
  hour-left (Open a b) j None = (λ e. absurd e, λ z. clash (cc (j.unsaid.1 z)))
  hour-left (Open a b) j (Some h) = (λ e. absurd e, λ z. clash (cc ((j.agreed h).1 (not_none hour_kinds z.0, z.1))))
  hour-left (Agreed k) j None = (λ e. clash (cc), λ z. clash (cc (j.unsaid.1 z)))
  hour-left (Agreed k) j (Some h) = (
    λ e. let d : h ≡ k = cc in let r = (j.agreed k).0 refl in (some-said hour_kinds r.0, rw d r.1),
    λ z. let q = (j.agreed h).1 (not_none hour_kinds z.0, z.1) in cc,
  )

  number-left : (k : ℕ) (x : Option ℕ) → (said_of (said kept k) ≡ x) ↔ NumberIs f s k x
  unfolding said_of
  number-left k x = go (said kept k) refl x
    where
      go : (y : ℕ) → said kept k ≡ y → (x : Option ℕ) → (said_of y ≡ x) ↔ NumberIs f s k x
      go zero e None = (λ q n z. omega (arith, sym e ∙ (handed f s m k n).1 z), λ z. refl)
      go zero e (Some n) = (λ q. clash (cc), λ z. absurd (omega (arith, sym e ∙ (handed f s m k n).1 z)))
      go (suc a) e None = (
        λ q. clash (cc (rw (ne_eqb (suc a) 0 (λ (z : suc a ≡ 0). omega arith)) at q)),
        λ z. absurd (z a ((handed f s m k a).0 e)),
      )
      go (suc a) e (Some n) =
          let one : suc a - 1 ≡ a = omega arith in
          let is : said_of (suc a) ≡ Some a = rw (ne_eqb (suc a) 0 (λ (z : suc a ≡ 0). omega arith), one) in (
            λ q. let d : a ≡ n = cc in rw (← d) ((handed f s m k a).0 e),
            λ z. let d : a ≡ n = omega (arith, sym e ∙ (handed f s m k n).1 z) in is ∙ ap Some d,
          )

  -- the zone offset, whose fact is in its range
  offset-left : (o : Option ℤ) → (offset_of (said kept zone_offset) ≡ o) ↔ OffsetIs f s o
  offset-left o = go (said kept zone_offset) refl o
    where
      go : (y : ℕ) → said kept zone_offset ≡ y → (o : Option ℤ) → (offset_of y ≡ o) ↔ OffsetIs f s o
      go zero e None = (λ q n z. omega (arith, sym e ∙ (handed f s m zone_offset n).1 z), λ z. offset_none)
      go zero e (Some z) = (
        λ q. let r = offset_none in clash (cc),
        λ r. absurd (omega (arith, sym e ∙ (handed f s m zone_offset (offset_number z)).1 r.1)),
      )
      go (suc a) e None = (
        λ q. let r = offset_said a (offset_most f s a ((handed f s m zone_offset a).0 e)) in clash (cc),
        λ z. absurd (z a ((handed f s m zone_offset a).0 e)),
      )
      go (suc a) e (Some z) =
          let l = offset_most f s a ((handed f s m zone_offset a).0 e) in
          let is = offset_said a l in (
            λ q.
                let d : pos (suc a) -ℤ pos 1440 ≡ z = cc in
                (rw d at (said_valid a l), rw (ap offset_number (sym d) ∙ said_number a) ((handed f s m zone_offset a).0 e)),
            λ r.
                let d : a ≡ offset_number z = omega (arith, sym e ∙ (handed f s m zone_offset (offset_number z)).1 r.1) in
                is ∙ ap Some (rw d (back z r.0)),
          )

  -- dates of two days are the same only if the days are
  same-day : (a b : ℕ) → IsDay a → IsDay b → date_of a ≡ date_of b → a ≡ b
  same-day a b p q e =
      sym (number_of_date a p.0 p.1).number
      ∙ ap (λ (x : Date). day_number x.year x.month x.day) e
      ∙ (number_of_date b q.0 q.1).number

  -- the answer, by the two verdicts, whatever was examined
  module _ (u : ℕ) (v w : Verdict) (j : Judged (NoneSaid f s day_kinds) IsDay (DayAgrees f s) v)
      (i : Judged (NoneSaid f s hour_kinds) IsHour (HourAgrees f s) w)
      (e : reading f s ≡ naming (read f s).forms (examining u (with_day (read f s).state v w))) where
    -- where none agrees a fact bears: of itself every day agrees with no fact
    day-borne : ((d : ℕ) → IsDay d → DayAgrees f s d → ⊥) → NoneSaid f s day_kinds → ⊥
    day-borne g z = clash (cc (j.impossible.1 g, j.unsaid.1 z))

    hour-borne : ((h : ℕ) → IsHour h → HourAgrees f s h → ⊥) → NoneSaid f s hour_kinds → ⊥
    hour-borne g z = clash (cc (i.impossible.1 g, i.unsaid.1 z))

    stands : ((x : Option Date) × Leaves v x) ↔ DayStands f s
    stands = (λ r. (r.0, (day-left v j r.0).0 r.1), λ r. (r.0, (day-left v j r.0).1 r.1))

    answered-by : Answered f s
    unfolding naming examining
    answered-by =
        let t = (read f s).state in
        record {
          no_day = (
            λ q.
                let g = j.impossible.0 ((day_none t v w).0 (rw e at q)) in
                (some-said day_kinds (day-borne g), g),
            λ r. rw e ((day_none t v w).1 (j.impossible.1 r.1)),
          );
          two_days = λ a b p q. (
            λ x.
                let r = (day_two t v w (date_of a) (date_of b)).0 (rw e at x) in
                let o = (j.«open» r.0 r.1).0 r.2 in
                let k = same-day r.0 a o.1.is_first p r.3 in
                let l = same-day r.1 b o.1.is_second q r.4 in
                (some-said day_kinds o.0, rw (k, l) at o.1),
            λ r. rw e ((day_two t v w (date_of a) (date_of b)).1 (a, b, (j.«open» a b).1 (not_none day_kinds r.0, r.1), refl, refl)),
          );
          no_hour = (
            λ q.
                let r = (then_none t v w).0 (rw e at q) in
                let g = i.impossible.0 r.1 in
                (stands.0 r.0, some-said hour_kinds (hour-borne g), g),
            λ r. rw e ((then_none t v w).1 (stands.1 r.0, i.impossible.1 r.2)),
          );
          two_hours = λ a b. (
            λ q.
                let r = (then_two t v w a b).0 (rw e at q) in
                let o = (i.«open» a b).0 r.1 in
                (stands.0 r.0, some-said hour_kinds o.0, o.1),
            λ r. rw e ((then_two t v w a b).1 (stands.1 r.0, (i.«open» a b).1 (not_none hour_kinds r.1, r.2))),
          );
          done = λ x h n c o. (
            λ q.
                let r = (then_done t v w x h n c o).0 (rw e at q) in (
                  (day-left v j x).0 r.0,
                  (hour-left w i h).0 r.1,
                  (number-left minute n).0 r.2,
                  (number-left second c).0 r.3,
                  (offset-left o).0 r.4,
                ),
            λ r.
                rw e
                ((then_done t v w x h n c o).1 (
                  (day-left v j x).1 r.0,
                  (hour-left w i h).1 r.1,
                  (number-left minute n).1 r.2,
                  (number-left second c).1 r.3,
                  (offset-left o).1 r.4,
                )),
          );
          unread = λ q. rw e (done_place t v w (rw e at q) ∙ ends_at f s m);
          forms = λ q. rw (e, eq-eqb (with_day t v w).number 0 (rw e at q)) (forms_are f s m);
        }

  pub answered : Answered f s
  unfolding judged with_searched
  answered =
      let k = by_skipping kept in
      answered-by k.0 (day_verdict kept) (hour_verdict kept) day_by hour_by (rw k.1 at (matched_is f s Skipping m))
