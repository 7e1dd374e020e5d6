-- A text is matched exactly if the answer's number is none of those before 9, and then the judge is handed exactly the facts that it says.
-- Assumes nothing.
use Prim.Native.Nat.{ℕ, zero, suc}
use mathlib.Core.Bool.{Bool, true, false, false≢true, true≢false}
use mathlib.Core.List.{List}
use mathlib.Core.Logic.{◌⊎◌, ◌↔◌, inl, inr, ⊎_elim}
use mathlib.Core.Path.{◌≡◌, refl, sym, ◌∙◌}
use native.Mathlib.Omega.{arith}
use borrow.Author.Tests.{le-leb, leb-true}
use lib.Dec.{leb}
use lib.ListN.{length, get_or, replicate}
use Rattle.kinds.specs.Kinds.{kinds, month, weekday}
use Rattle.conversions.specs.Conversions.{among}
use Rattle.format.specs.Opening.{Ended, Whole, BadAt, opening, longest}
use Rattle.format.specs.declared.opening.Side.TheVariants.{Reader}
use Rattle.agreement.specs.Verdicts.{hour_verdict}
use Rattle.agreement.specs.declared.Verdict.{Verdict}
use Rattle.agreement.specs.declared.Verdict.TheVariants.{Unsaid, Impossible, Open, Agreed}
use Rattle.judge.specs.Engines.{searched}
use Rattle.judge.specs.declared.Engine.{Engine}
use Rattle.strptime.specs.Answers.{showing, refused, finished, naming, examining, over_budget, done, with_hour, with_day, with_searched}
use Rattle.strptime.specs.Answers.{judged, concluded, read_by, by_format, unless_long, reading_by}
use Rattle.matching.specs.Steps.{unsaid, start, no_forms, is_read, read_all}
use Rattle.strptime.specs.declared.Reading.{Reading}
use Rattle.matching.specs.declared.State.{State}
use Rattle.matching.specs.declared.Stepped.{Stepped}
use Rattle.demands.specs.Facts.{Says, last_form, facts, end_from, Consistent, Matched}
use Rattle.demands.specs.Demand.{before_nine}
use Rattle.demands.proofs.Walk.{Kept, last_first, Went, went, goes_through}
use Rattle.std.specs.Prelude.{Err, Ok, Option, Result}
use Rattle.calendar.specs.declared.Date.{Date}
use Rattle.judge.specs.declared.Judged.{Judged}
use Rattle.judge.specs.declared.OverBudget.{OverBudget}
use Rattle.matching.specs.declared.Refused.TheVariants.{Conflict, Mismatch, Range}
use Rattle.matching.specs.declared.Refused.{Refused}

-- ---- numbers of a judging

abbrev Judging : Reading → Type 0
Judging r = among r.number before_nine ≡ false

module _ (t : State) where
  hour-numbers : (d : Option Date) (v : Verdict) → Judging (with_hour t d v)
  unfolding with_hour done finished refused showing among
  hour-numbers d Unsaid = refl
  hour-numbers d Impossible = refl
  hour-numbers d (Open a b) = refl
  hour-numbers d (Agreed h) = refl

  day-numbers : (v w : Verdict) → Judging (with_day t v w)
  unfolding with_day refused showing among
  day-numbers Unsaid w = hour-numbers _ w
  day-numbers Impossible w = refl
  day-numbers (Open a b) w = refl
  day-numbers (Agreed k) w = hour-numbers _ w

  searched-numbers : (x : Result Judged OverBudget) (w : Verdict) → Judging (with_searched t x w)
  unfolding with_searched examining over_budget refused showing among
  searched-numbers (Ok j) w = day-numbers j.verdict w
  searched-numbers (Err o) w = refl

  judged-numbers : (e : Engine) → Judging (judged e t)
  unfolding judged
  judged-numbers e = searched-numbers (searched e t.facts) (hour_verdict t.facts)

-- ---- what is handed to the judge

-- the reading of a text by a format's elements
abbrev pub read : List ℕ → List ℕ → Stepped
read f s = read_all (opening Reader f).elements s start no_forms

none_kept : (k n : ℕ) → Kept start.facts k n → ⊥
unfolding start unsaid
none_kept k n e = omega (arith, zeros kinds k)
  where
    zeros : (m k : ℕ) → get_or {A = ℕ} (replicate m 0) k 0 ≡ 0
    zeros zero k = refl
    zeros (suc m) zero = refl
    zeros (suc m) (suc k) = zeros m k

module _ (f s : List ℕ) where
  read-went : is_read (read f s).outcome ≡ true → Went (opening Reader f).elements s start no_forms
  unfolding start unsaid
  read-went = went (opening Reader f).elements s start no_forms refl (omega arith)

  -- exactly the facts that the text says
  kept-said : is_read (read f s).outcome ≡ true → (k n : ℕ) → Kept (read f s).state.facts k n ↔ Says (facts f s) k n
  unfolding facts start
  kept-said w k n =
      let g = (read-went w).keeps k n in
      (λ x. ⊎_elim (λ y. absurd (none_kept k n y)) (λ y. y) (g.0 x), λ x. g.1 (inr x))

  consistent : is_read (read f s).outcome ≡ true → Consistent (facts f s)
  consistent w k m n x y =
      let a = (kept-said w k m).1 x in
      let b = (kept-said w k n).1 y in
      omega (arith, sym a ∙ b)

  matched-read : Matched f s → is_read (read f s).outcome ≡ true
  unfolding facts start
  matched-read m =
      goes_through (opening Reader f).elements s start no_forms (unfold start unsaid in refl) (omega arith) m.reads_all
      (λ k a b x y. m.consistent k a b (not-kept k a x) (not-kept k b y))
    where
      not-kept : (k n : ℕ) → Kept start.facts k n ⊎ Says (facts f s) k n → Says (facts f s) k n
      not-kept k n x = ⊎_elim (λ y. absurd (none_kept k n y)) (λ y. y) x

  -- the answer to a matched text is its judging, by every engine, with the forms that were kept
  pub matched_is : (e : Engine) → Matched f s → reading_by e f s ≡ naming (read f s).forms (judged e (read f s).state)
  unfolding reading_by unless_long by_format read_by concluded is_read
  matched_is e m =
      rw (le-leb (length f) longest m.format_short, le-leb (length s) longest m.text_short, m.format_whole)
      (concluding (read f s).outcome (matched-read m))
    where
      concluding : (o : Result (Unit {0}) Refused) → is_read o ≡ true
          → concluded e (read f s).state (read f s).forms o ≡ naming (read f s).forms (judged e (read f s).state)
      concluding (Ok u) q = refl
      concluding (Err why) q = absurd (false≢true q)

  -- a text that is not matched is refused by one of the numbers before 9, the same by every engine
  pub record Before : Type 0 where
    pub number : ℕ
    pub place : ℕ
    pub early : among number before_nine ≡ true
    pub refuses : (e : Engine) → reading_by e f s ≡ refused number place

  -- each way out of the order
  way_out : (a : Bool) → leb (length f) longest ≡ a → (b : Bool) → leb (length s) longest ≡ b
      → (d : Ended) → (opening Reader f).ended ≡ d → (o : Result (Unit {0}) Refused) → (read f s).outcome ≡ o → Matched f s ⊎ Before
  unfolding reading_by unless_long by_format read_by concluded among is_read start
  way_out false p b g d h o q = inr (record { number = 1; place = 0; early = refl; refuses = λ e. rw p })
  way_out true p false g d h o q = inr (record { number = 5; place = 0; early = refl; refuses = λ e. rw (p, g) })
  way_out true p true g (BadAt k) h o q = inr (record { number = 3; place = k; early = refl; refuses = λ e. rw (p, g, h) })
  way_out true p true g Whole h (Err (Mismatch k)) q = inr (record { number = 6; place = k; early = refl; refuses = λ e. rw (p, g, h, q) })
  way_out true p true g Whole h (Err (Range k)) q = inr (record { number = 7; place = k; early = refl; refuses = λ e. rw (p, g, h, q) })
  way_out true p true g Whole h (Err (Conflict k)) q = inr (record { number = 8; place = k; early = refl; refuses = λ e. rw (p, g, h, q) })
  way_out true p true g Whole h (Ok u) q =
      let w : is_read (read f s).outcome ≡ true = rw q in
      inl
      (record {
        format_short = leb-true (length f) longest p;
        text_short = leb-true (length s) longest g;
        format_whole = h;
        reads_all = (read-went w).reads;
        consistent = consistent w;
      })

  pub matched_or_before : Matched f s ⊎ Before
  matched_or_before = way_out _ refl _ refl (opening Reader f).ended refl (read f s).outcome refl

  pub matched : (e : Engine) → Matched f s ↔ (among (reading_by e f s).number before_nine ≡ false)
  unfolding naming refused showing
  matched e = (
    λ m. rw (matched_is e m) (judged-numbers (read f s).state e),
    λ j. ⊎_elim (λ m. m) (λ b. absurd (true≢false (sym b.early ∙ rw (b.refuses e) at j))) matched_or_before,
  )

  -- what the judge is handed: a kind has a number exactly if that fact is among those that the text says
  pub handed : Matched f s → (k n : ℕ) → Kept (read f s).state.facts k n ↔ Says (facts f s) k n
  handed m = kept-said (matched-read m)

  -- and where the elements end
  pub ends_at : Matched f s → (read f s).state.at ≡ end_from (opening Reader f).elements s 0
  unfolding start
  ends_at m = (read-went (matched-read m)).ends

  -- and the forms of the last names
  pub forms_are : Matched f s
      → (read f s).forms ≡ record { weekday = last_form weekday (facts f s); month = last_form month (facts f s) }
  unfolding facts start
  forms_are m = (read-went (matched-read m)).forms ∙ last_first (facts f s)
