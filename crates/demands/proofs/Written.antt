-- A fact would be written for a day or an hour exactly where the value of its kind is its number: what is written reads back.
-- Assumes nothing.
use Prim.Native.Char.{code}
use Prim.Native.Nat.{ℕ, zero, suc, ◌^◌, ◌≤◌, ◌<◌}
use mathlib.Core.Bool.{Bool, true, false, ◌&&◌, and-eq-true_iff}
use mathlib.Core.List.{List, [], ◌∷◌, map, append-nil}
use mathlib.Core.Logic.{◌↔◌, inl, inr, ⊎_elim}
use mathlib.Core.Path.{◌≡◌, refl, sym, ap, ◌∙◌}
use native.Mathlib.Nat.{eq-or-lt_of_le}
use native.Mathlib.Omega.{arith}
use borrow.Author.Tests.{le-leb, lt-leb, ltb-true, leb-true}
use lib.Dec.{leb, ltb, lit<, lit≤}
use lib.ListN.{length, get_or, replicate}
use lib.Seq.{sets, sets-eq, take-append_seam}
use Rattle.kinds.specs.Kinds.{half_of_day}
use Rattle.calendar.specs.Calendar.{date_of, days, computes}
use Rattle.calendar.proofs.Dates.{valid_no_fault, number_of_date}
use Rattle.conversions.specs.Conversions as conversions
use Rattle.conversions.specs.Conversions.{conversion_of}
use Rattle.format.specs.Opening as opening
use Rattle.conversions.specs.Pieces.{unstyled}
use Rattle.format.specs.Opening.{Opening, Whole, opening, conversion_at, letter_of}
use Rattle.conversions.specs.declared.conversions.Conversion.{Conversion}
use Rattle.conversions.specs.declared.conversions.Form.TheVariants.{Zeros}
use Rattle.format.specs.declared.opening.Side.TheVariants.{Writer}
use Rattle.names.specs.declared.names.Names.TheVariants.{Halves}
use Rattle.laws.specs.Lists.{range}
use Rattle.laws.proofs.Table.{same_at}
use Rattle.names.specs.Case.{fold, cased}
use Rattle.text.proofs.Fill.{fill_below}
use Rattle.text.specs.Digits.{filled, decimal}
use Rattle.names.specs.Names as names
use Rattle.names.specs.Naming as naming
use Rattle.names.specs.Naming.{name_for}
use Rattle.text.proofs.ReadBack.{filled_length, filled_digits, filled_back}
use Rattle.values.specs.Moments.{moment_of, moment_fault}
use Rattle.values.specs.Offsets.{is_offset}
use Rattle.values.specs.Values.{value, date_value, hour_value}
use Rattle.values.specs.declared.Moment.{Moment}
use Rattle.values.proofs.Ranges.{highest, date_ranged, hour_ranged}
use Rattle.converted.proofs.Lengths.{by_form, number_plain}
use Rattle.strftime.proofs.Lengths.{element_plain}
use Rattle.strftime.specs.Writing as writer
use Rattle.converted.specs.Converted.{formed}
use Rattle.strftime.specs.Writing.{numbered, element, text, put, is_seconds, offered, by_format, for_moment, for_fields, writing}
use Rattle.strftime.specs.declared.Fields.{Fields}
use Rattle.demands.proofs.Seconds.{no_seconds}
use Rattle.demands.specs.Writes.{letters, letter_for, wrote, written, IsHalf, WouldWrite, on_day, at_hour, halves}
use Rattle.std.specs.Prelude.{None, Ok}

-- ---- one conversion, written

abbrev fields : Moment → Fields
fields m =
    record {
      year = m.date.year;
      month = m.date.month;
      day = m.date.day;
      hour = m.hour;
      minute = m.minute;
      second = m.second;
      offset = m.offset;
    }

abbrev IsMoment : Moment → Type 0
IsMoment m = moment_of m.date.year m.date.month m.date.day m.hour m.minute m.second m.offset ≡ Ok m

-- the conversion of kind k, as an element
abbrev element_for : ℕ → ℕ
element_for k = conversion_at 0 unstyled (letter_for k)

abbrev alone : ℕ → Opening
alone e = record { elements = e ∷ []; ended = Whole }

module _ (k : ℕ) (m : Moment) (v : IsMoment m) (o : opening Writer (code "%" ∷ letter_for k ∷ []) ≡ alone (element_for k))
    (s : is_seconds (element_for k) ≡ false) {x : List ℕ} (e : element m (element_for k) ≡ x) (short : length x ≤ 9) where
  wrote-is : wrote k (fields m) ≡ record { answer = numbered 0 (length x); buffer = sets (replicate 9 0) 0 x }
  unfolding wrote writing for_fields for_moment by_format offered put text
  wrote-is = rw (v, o, o, no_seconds m.offset (element_for k) s, e, append-nil x, le-leb (length x) 9 short)

  written_is : written k (fields m) ≡ x
  unfolding written
  written_is = rw (wrote-is, sets-eq x (replicate 9 0) 0 (omega arith)) (take-append_seam x _)

-- ---- the rows of the conversions for kinds 1 to 15, each by one computed test

-- each is a conversion of its own
opens : (k : ℕ) → 1 ≤ k → k ≤ 15 → opening Writer (code "%" ∷ letter_for k ∷ []) ≡ alone (element_for k)
opens k p q = same_at (λ j. opening Writer (code "%" ∷ letter_for j ∷ [])) (λ j. alone (element_for j)) 15 1 computed k p (omega arith)
  where
    computed : map (λ j. opening Writer (code "%" ∷ letter_for j ∷ [])) (range 1 15) ≡ map (λ j. alone (element_for j)) (range 1 15)
    computed = unfold opening.computes conversions.computes letter_for letters range in refl

-- its row
abbrev row_for : ℕ → Conversion
row_for k = conversion_of (letter_of (element_for k))

-- kinds 1 to 14 are numbers, filled with zeros
forms : (k : ℕ) → 1 ≤ k → k ≤ 14 → ((row_for k).kind ≡ k) × ((row_for k).form ≡ Zeros)
forms k p q =
    let e = same_at (λ j. (row_for j).kind) (λ j. j) 14 1 kinds k p (omega arith) in
    let f = same_at (λ j. (row_for j).form) (λ j. Zeros) 14 1 zeros k p (omega arith) in
    (e, f)
  where
    kinds : map (λ j. (row_for j).kind) (range 1 14) ≡ map (λ j. j) (range 1 14)
    kinds = unfold conversions.computes letter_for letters range in refl

    zeros : map (λ j. (row_for j).form) (range 1 14) ≡ map (λ j. Zeros) (range 1 14)
    zeros = unfold conversions.computes letter_for letters range in refl

-- the highest value of a kind fits the width of its conversion
roomy : ℕ → Bool
roomy k = let w = (row_for k).width in ltb (get_or highest k 0) (10 ^ w) && (leb 1 w && leb w 9)

fits : (k : ℕ) → 1 ≤ k → k ≤ 14
    → (get_or highest k 0 < 10 ^ (row_for k).width) × (1 ≤ (row_for k).width) × ((row_for k).width ≤ 9)
unfolding roomy
fits k p q =
    let w = (row_for k).width in
    let t = (and-eq-true_iff (ltb (get_or highest k 0) (10 ^ w)) (leb 1 w && leb w 9)).0
    (same_at roomy (λ j. true) 14 1 computed k p (omega arith)) in
    let u = (and-eq-true_iff (leb 1 w) (leb w 9)).0 t.1 in
    (ltb-true _ _ t.0, leb-true _ _ u.0, leb-true _ _ u.1)
  where
    computed : map roomy (range 1 14) ≡ map (λ j. true) (range 1 14)
    computed = unfold roomy conversions.computes letter_for letters range highest in refl

-- its letter is a byte
small : (k : ℕ) → 1 ≤ k → k ≤ 15 → letter_for k < 256
small k p q = ltb-true _ 256 (same_at (λ j. ltb (letter_for j) 256) (λ j. true) 15 1 computed k p (omega arith))
  where
    computed : map (λ j. ltb (letter_for j) 256) (range 1 15) ≡ map (λ j. true) (range 1 15)
    computed = unfold letter_for letters range conversions.computes in refl

-- and none is %s
not_s : (k : ℕ) → 1 ≤ k → k ≤ 15 → is_seconds (element_for k) ≡ false
not_s k p q = same_at (λ j. is_seconds (element_for j)) (λ j. false) 15 1 computed k p (omega arith)
  where
    computed : map (λ j. is_seconds (element_for j)) (range 1 15) ≡ map (λ j. false) (range 1 15)
    computed = unfold is_seconds letter_for letters range conversions.computes in refl

-- ---- kinds 1 to 14

module _ (k : ℕ) (p : 1 ≤ k) (q : k ≤ 14) (m : Moment) (v : IsMoment m) (r : value k m ≤ get_or highest k 0) where
  number-written : element m (element_for k) ≡ filled 48 (row_for k).width (value k m)
  number-written =
      let f = fits k p q in
      element_plain m (element_for k) (omega arith) refl (omega (arith, small k p (omega arith)))
      ∙ by_form unstyled (row_for k) m (forms k p q).1 (ap (λ j. value j m) (sym (forms k p q).0))
      ∙ unfold formed in number_plain 48 (row_for k).width (value k m) f.1 (omega (arith, f.0))

  number-would : (n : ℕ) → WouldWrite k n (fields m) ↔ (value k m ≡ n)
  number-would n =
      let w = (row_for k).width in
      let x = filled 48 w (value k m) in
      let f = fits k p q in
      let long = filled_length 48 w (value k m) in
      let short : length x ≤ 9 = omega (arith, long, f.2) in
      let back : decimal 0 x ≡ value k m = filled_back w (value k m) (omega (arith, f.0)) in
      let o = opens k p (omega arith) in
      let z = not_s k p (omega arith) in
      let is = written_is k m v o z number-written short in (
        λ y. ⊎_elim (λ z. sym back ∙ rw is at z.1.2) (λ z. absurd (omega (arith, z.0))) y.shows,
        λ e. record {
          done = rw (wrote-is k m v o z number-written short);
          shows = inl (λ z. omega arith, rw is (omega (arith, long, f.1), filled_digits w (value k m), back ∙ e));
        },
      )

-- ---- kind 15

-- "am" and "pm" are told apart
half_is : (v n : ℕ) → v ≤ 1 → IsHalf n (name_for Halves v) ↔ (v ≡ n)
unfolding names.computes naming.computes fold halves
half_is zero zero h = (λ e. refl, λ e. (lit< tt, refl))
half_is zero (suc zero) h = (λ e. absurd (omega (arith, ap (λ (s : List ℕ). get_or s 0 0) e.1)), λ e. absurd (omega arith))
half_is zero (suc (suc n)) h = (λ e. absurd (omega (arith, e.0)), λ e. absurd (omega arith))
half_is (suc zero) zero h = (λ e. absurd (omega (arith, ap (λ (s : List ℕ). get_or s 0 0) e.1)), λ e. absurd (omega arith))
half_is (suc zero) (suc zero) h = (λ e. refl, λ e. (lit< tt, refl))
half_is (suc zero) (suc (suc n)) h = (λ e. absurd (omega (arith, e.0)), λ e. absurd (omega arith))
half_is (suc (suc v)) n h = absurd (omega arith)

half_short : (v : ℕ) → v ≤ 1 → length (name_for Halves v) ≤ 9
unfolding names.computes naming.computes
half_short zero h = lit≤ tt
half_short (suc zero) h = lit≤ tt
half_short (suc (suc v)) h = absurd (omega arith)

module _ (m : Moment) (v : IsMoment m) (r : value half_of_day m ≤ 1) where
  half-written : element m (element_for half_of_day) ≡ name_for Halves (value half_of_day m)
  unfolding writer.computes conversions.computes letter_for letters cased
  half-written = fill_below 32 0 (name_for Halves (value half_of_day m)) (omega arith)

  half-would : (n : ℕ) → WouldWrite half_of_day n (fields m) ↔ (value half_of_day m ≡ n)
  half-would n =
      let short = half_short (value half_of_day m) r in
      let o = opens half_of_day (lit≤ tt) (lit≤ tt) in
      let z = not_s half_of_day (lit≤ tt) (lit≤ tt) in
      let is = written_is half_of_day m v o z half-written short in
      let same = half_is (value half_of_day m) n r in (
        λ y. ⊎_elim (λ z. absurd (z.0 refl)) (λ z. same.0 (rw is at z.1)) y.shows,
        λ e. record { done = rw (wrote-is half_of_day m v o z half-written short); shows = inr (refl, rw is (same.1 e)) },
      )

-- ---- a day, and an hour

-- a day of the calendar
module _ (d : ℕ) (l : 1 ≤ d) (h : d ≤ days) where
  midnight : Moment
  midnight = record { date = date_of d; hour = 0; minute = 0; second = 0; offset = None }

  is-midnight : IsMoment midnight
  unfolding midnight moment_of moment_fault is_offset
  is-midnight = rw (valid_no_fault _ _ _ (number_of_date d l h).valid)

  pub day_would : (k n : ℕ) → 1 ≤ k → k ≤ 12 → WouldWrite k n (on_day d) ↔ (date_value k (date_of d) ≡ n)
  unfolding on_day midnight value
  day_would k n p q =
      let e : value k midnight ≡ date_value k (date_of d) = rw (le-leb k 12 q) in
      let r = date_ranged (date_of d) (number_of_date d l h).valid k q in
      rw e at (number-would k p (omega arith) midnight is-midnight (rw e r.1) n)

-- an hour of the day, on the first day
module _ (h : ℕ) (l : h ≤ 23) where
  moment : Moment
  moment = record { date = record { year = 1; month = 1; day = 1 }; hour = h; minute = 0; second = 0; offset = None }

  is_moment : IsMoment moment
  unfolding moment moment_of moment_fault is_offset computes
  is_moment = rw (le-leb h 23 l)

  half_at : (n : ℕ) → WouldWrite half_of_day n (at_hour h) ↔ (hour_value half_of_day h ≡ n)
  unfolding at_hour moment value highest
  half_at n = half-would moment is_moment (hour_ranged h l half_of_day (lit≤ tt) (lit≤ tt)).1 n

  pub hour_would : (k n : ℕ) → 13 ≤ k → k ≤ 15 → WouldWrite k n (at_hour h) ↔ (hour_value k h ≡ n)
  unfolding at_hour moment value
  hour_would k n p q =
      let e : value k moment ≡ hour_value k h = rw (lt-leb k 12 (omega arith), le-leb k 15 q) in
      let r = hour_ranged h l k p q in
      ⊎_elim
      (λ (s : k ≡ 15). rw s (half_at n))
      (λ (s : k < 15). rw e at (number-would k (omega arith) (omega arith) moment is_moment (rw e r.1) n))
      (eq-or-lt_of_le q)
