-- Demand 1: every answer is a row of the table.
-- Assumes nothing.
use Prim.Native.Nat.{ℕ, ◌≤◌, ◌<◌}
use mathlib.Core.Bool.{true, false, false≢true}
use mathlib.Core.List.{List, [], ◌∷◌, ◌++◌}
use mathlib.Core.Path.{◌≡◌, refl, sym, ◌∙◌}
use native.Mathlib.Nat.{zero-add}
use native.Mathlib.Omega.{arith}
use borrow.Author.Tests.{ne_eqb, leb-true, leb-false}
use lib.Dec.{eqb, leb}
use lib.ListN.{length, take, drop}
use lib.Seq.{sets, sets-eq, length-sets, drop-append_seam}
use Rattle.laws.specs.Bytes.{bytes}
use Rattle.laws.specs.Lists.{every}
use Rattle.laws.proofs.Cases.{either, picked}
use Rattle.conversions.specs.Conversions.{among}
use Rattle.format.specs.Opening.{Ended, Whole, BadAt, opening, longest, is_byte}
use Rattle.format.specs.declared.opening.Side.TheVariants.{Writer, Reader}
use Rattle.format.proofs.Refused.{bad_within}
use Rattle.values.specs.Moments.{moment_fault, moment_of}
use Rattle.values.specs.declared.Moment.{Moment}
use Rattle.strftime.specs.Writing.{numbered, text, refused, put, lacking, offered, by_format, for_moment, for_fields, writing}
use Rattle.strftime.specs.declared.Fields.{Fields}
use Rattle.agreement.specs.declared.Verdict.{Verdict}
use Rattle.agreement.specs.declared.Verdict.TheVariants.{Unsaid as NotSaid, Impossible, Open, Agreed}
use Rattle.judge.specs.Engines.{searched}
use Rattle.judge.specs.declared.Engine.{Engine}
use Rattle.judge.specs.declared.Engine.TheVariants.{Within}
use Rattle.judge.proofs.Engines.{searched_over}
use Rattle.strptime.specs.Answers as reader
use Rattle.strptime.specs.Answers.{showing, finished, naming, examining, over_budget, done, with_hour, with_day, with_searched}
use Rattle.strptime.specs.Answers.{judged, concluded, read_by, reading_by}
use Rattle.matching.specs.Steps.{start, no_forms, read_all}
use Rattle.matching.specs.declared.Forms.{Forms}
use Rattle.strptime.specs.declared.Reading.{Reading}
use Rattle.matching.specs.declared.State.{State}
use Rattle.strptime.proofs.Places.{all_within}
use Rattle.matching.proofs.Walk.{Placed}
use Rattle.demands.specs.Demand.{before_nine}
use Rattle.demands.proofs.Seconds.{seconds_stand}
use Rattle.demands.specs.Rows.{OneOf, WritingRow, reading_numbers, ReadingRow}
use Rattle.std.specs.Prelude.{Err, None, Ok, Option, Result, Some, ℕ, ℤ}
use Rattle.calendar.specs.declared.Date.{Date}
use Rattle.judge.specs.Engines.{over_by}
use Rattle.judge.specs.declared.Judged.{Judged}
use Rattle.judge.specs.declared.OverBudget.{OverBudget}
use Rattle.matching.specs.declared.Refused.TheVariants.{Conflict, Mismatch, Range}
use Rattle.matching.specs.declared.Refused.{Refused}
use Rattle.strptime.specs.declared.Shown.TheVariants.{Hours}
use Rattle.strptime.specs.declared.Shown.{Shown}
use Rattle.values.specs.declared.fields.Field.{Field}
use Rattle.values.specs.declared.fields.Field.TheVariants.{Year, Month, Day, Hour, Minute, Second, Offset}
use Rattle.values.specs.Moments.{field_number, field_of}

-- ---- the writer

-- a field's number is one of 1 to 7
field_few : (x : Field) → OneOf (1 ∷ 2 ∷ 3 ∷ 4 ∷ 5 ∷ 6 ∷ 7 ∷ []) (field_number x)
unfolding field_number among
field_few Year = refl
field_few Month = refl
field_few Day = refl
field_few Hour = refl
field_few Minute = refl
field_few Second = refl
field_few Offset = refl

module _ (f b : List ℕ) where
  -- a refusal, with what its row says of its place
  refusal : (n p : ℕ) → OneOf (0 ∷ 1 ∷ 2 ∷ 3 ∷ 4 ∷ 12 ∷ []) n → (n ≡ 0 → ⊥) → (n ≡ 1 → p ≡ 0)
      → (n ≡ 2 → OneOf (1 ∷ 2 ∷ 3 ∷ 4 ∷ 5 ∷ 6 ∷ 7 ∷ []) p) → (n ≡ 3 → p < length f)
      → (every is_byte f ≡ true → n ≡ 12 → take 2 (drop p f) ≡ bytes "%s") → (n ≡ 4 → length b < p) → WritingRow f b (refused n p b)
  unfolding refused
  refusal n p l no-0 one two three twelve four =
      record {
        listed = l;
        untouched = λ z. refl;
        fits = λ z. absurd (no-0 z);
        same_length = refl;
        past_the_count = λ z. refl;
        place_1 = one;
        place_2 = two;
        place_3 = three;
        place_12 = twelve;
        place_4 = four;
      }

  put_written : (x : List ℕ) → WritingRow f b (put x b)
  unfolding put among
  put_written x =
      either (WritingRow f b) (leb (length x) (length b))
      (λ e. done (leb-true (length x) (length b) e))
      (λ e.
      refusal 4 (length x) refl (λ z. omega (arith, z)) (λ z. absurd (omega (arith, z))) (λ z. absurd (omega (arith, z)))
      (λ z. absurd (omega (arith, z))) (λ b z. absurd (omega (arith, z))) (λ z. leb-false (length x) (length b) e))
    where
      done : length x ≤ length b → WritingRow f b (record { answer = numbered 0 (length x); buffer = sets b 0 x })
      done h =
          let stored : sets b 0 x ≡ x ++ drop (length x) b = rw zero-add at (sets-eq x b 0 (omega arith)) in
          record {
            listed = refl;
            untouched = λ z. absurd (z refl);
            fits = λ z. h;
            same_length = length-sets b 0 x;
            past_the_count = λ z. rw stored (drop-append_seam x (drop (length x) b));
            place_1 = λ z. absurd (omega (arith, z));
            place_2 = λ z. absurd (omega (arith, z));
            place_3 = λ z. absurd (omega (arith, z));
            place_12 = λ b z. absurd (omega (arith, z));
            place_4 = λ z. absurd (omega (arith, z));
          }

  -- 12, at a %s
  offered-written : length f ≤ longest → (m : Moment) → WritingRow f b (offered (opening Writer f).elements b m)
  unfolding offered among
  offered-written short m = go (lacking m.offset (opening Writer f).elements) refl
    where
      go : (l : Option ℕ) → lacking m.offset (opening Writer f).elements ≡ l
          → WritingRow f b (offered (opening Writer f).elements b m)
      go None e = rw e (put_written (text m (opening Writer f).elements))
      go (Some p) e =
          rw e
          (refusal 12 p refl (λ z. omega (arith, z)) (λ z. absurd (omega (arith, z))) (λ z. absurd (omega (arith, z)))
          (λ z. absurd (omega (arith, z))) (λ b z. seconds_stand f short b m.offset e) (λ z. absurd (omega (arith, z))))

  format-written : length f ≤ longest → (m : Moment) → WritingRow f b (by_format f b m)
  unfolding by_format among
  format-written short m = go (opening Writer f).ended refl
    where
      go : (d : Ended) → (opening Writer f).ended ≡ d → WritingRow f b (by_format f b m)
      go Whole e = rw e (offered-written short m)
      go (BadAt p) e =
          rw e
          (refusal 3 p refl (λ z. omega (arith, z)) (λ z. absurd (omega (arith, z))) (λ z. absurd (omega (arith, z)))
          (λ z. bad_within Writer f e) (λ b z. absurd (omega (arith, z))) (λ z. absurd (omega (arith, z))))

  pub writing_rows : (t : Fields) → WritingRow f b (writing f t b)
  unfolding writing for_fields for_moment moment_of among
  writing_rows t =
      either (WritingRow f b) (leb (length f) longest)
      (λ l.
      either (λ (x : Result Moment Field). WritingRow f b (for_moment (by_format f b) b x)) (eqb fault 0)
      (λ _. format-written (leb-true (length f) longest l) _)
      (λ _. bad))
      (λ _.
      refusal 1 0 refl (λ z. omega (arith, z)) (λ z. refl) (λ z. absurd (omega (arith, z))) (λ z. absurd (omega (arith, z)))
      (λ b z. absurd (omega (arith, z))) (λ z. absurd (omega (arith, z))))
    where
      fault : ℕ
      fault = moment_fault t.year t.month t.day t.hour t.minute t.second t.offset

      bad : WritingRow f b (refused 2 (field_number (field_of fault)) b)
      bad =
          refusal 2 (field_number (field_of fault)) refl (λ z. omega (arith, z)) (λ z. absurd (omega (arith, z)))
          (λ z. field_few (field_of fault))
          (λ z. absurd (omega (arith, z))) (λ b z. absurd (omega (arith, z))) (λ z. absurd (omega (arith, z)))

-- ---- the reader

module _ (e : Engine) (f s : List ℕ) where
  -- a reading that hands out nothing, k days examined: with what its row says of what is shown, of its place and of the days
  shown_read : (k n p : ℕ) (x : Option Shown) → OneOf reading_numbers n → ((n ≡ 10 → ⊥) → x ≡ None)
      → (OneOf (1 ∷ 5 ∷ []) n → p ≡ 0) → (n ≡ 3 → p < length f) → (OneOf (0 ∷ 6 ∷ 7 ∷ 8 ∷ []) n → p ≤ length s)
      → (OneOf (9 ∷ 10 ∷ []) n → OneOf (1 ∷ 2 ∷ []) p) → (OneOf before_nine n → k ≡ 0) → (n ≡ 11 → (e ≡ Within p) × (k ≡ p))
      → ReadingRow e f s (examining k (showing n p x))
  unfolding examining showing
  shown_read k n p x l none one three text judge early budget =
      record {
        listed = l;
        no_day = λ z. refl;
        no_hour = λ z. refl;
        no_minute = λ z. refl;
        no_second = λ z. refl;
        no_offset = λ z. refl;
        no_forms_lem = λ z. refl;
        unshown = none;
        place_1_5 = one;
        place_3 = three;
        place_0_6_7_8 = text;
        place_9_10 = judge;
        place_11 = λ z. (budget z).0;
        none_examined = early;
        examined_11 = λ z. (budget z).1;
      }

  -- a refusal before the day was judged
  early-read : (n p : ℕ) → OneOf reading_numbers n → (OneOf (1 ∷ 5 ∷ []) n → p ≡ 0) → (n ≡ 3 → p < length f)
      → (OneOf (0 ∷ 6 ∷ 7 ∷ 8 ∷ []) n → p ≤ length s) → among n (9 ∷ 10 ∷ []) ≡ false → (n ≡ 11 → ⊥)
      → ReadingRow e f s (reader.refused n p)
  unfolding examining showing reader.refused
  early-read n p l one three text nine eleven =
      shown_read 0 n p None l (λ z. refl) one three text (λ z. absurd (false≢true (sym nine ∙ z))) (λ z. refl)
      (λ z. absurd (eleven z))

  -- 6, 7 or 8, at an offset of the text
  text-read : (n p : ℕ) → OneOf reading_numbers n → among n (1 ∷ 5 ∷ []) ≡ false → (n ≡ 3 → ⊥)
      → among n (9 ∷ 10 ∷ []) ≡ false → (n ≡ 11 → ⊥) → p ≤ length s → ReadingRow e f s (reader.refused n p)
  text-read n p l one three nine eleven h =
      early-read n p l (λ z. absurd (false≢true (sym one ∙ z))) (λ z. absurd (three z)) (λ z. h) nine eleven

  -- 11, at the budget
  budget-read : (b : ℕ) → e ≡ Within b → ReadingRow e f s (over_budget b)
  unfolding over_budget reader.refused among
  budget-read b q =
      shown_read b 11 b None refl (λ z. refl) (λ z. absurd (false≢true z)) (λ z. absurd (omega (arith, z)))
      (λ z. absurd (false≢true z)) (λ z. absurd (false≢true z)) (λ z. absurd (false≢true z)) (λ z. (q, refl))

  -- what is judged after k days were examined
  module _ (k : ℕ) where
    finished-read : (p : ℕ) (d : Option Date) (h m c : Option ℕ) (o : Option ℤ) → p ≤ length s
        → ReadingRow e f s (examining k (finished p d h m c o))
    unfolding examining finished among
    finished-read p d h m c o l =
        record {
          listed = refl;
          no_day = λ z. absurd (z refl);
          no_hour = λ z. absurd (z refl);
          no_minute = λ z. absurd (z refl);
          no_second = λ z. absurd (z refl);
          no_offset = λ z. absurd (z refl);
          no_forms_lem = λ z. absurd (z refl);
          unshown = λ z. refl;
          place_1_5 = λ z. absurd (false≢true z);
          place_3 = λ z. absurd (omega (arith, z));
          place_0_6_7_8 = λ z. l;
          place_9_10 = λ z. absurd (false≢true z);
          place_11 = λ z. absurd (omega (arith, z));
          none_examined = λ z. absurd (false≢true z);
          examined_11 = λ z. absurd (omega (arith, z));
        }

    -- 9 or 10, for the day or the hour
    nine : (p : ℕ) → OneOf (1 ∷ 2 ∷ []) p → ReadingRow e f s (examining k (reader.refused 9 p))
    unfolding reader.refused among
    nine p q =
        shown_read k 9 p None refl (λ z. refl) (λ z. absurd (false≢true z)) (λ z. absurd (omega (arith, z)))
        (λ z. absurd (false≢true z)) (λ z. q) (λ z. absurd (false≢true z)) (λ z. absurd (omega (arith, z)))

    ten : (p : ℕ) (x : Option Shown) → OneOf (1 ∷ 2 ∷ []) p → ReadingRow e f s (examining k (showing 10 p x))
    unfolding among
    ten p x q =
        shown_read k 10 p x refl (λ z. absurd (z refl)) (λ z. absurd (false≢true z)) (λ z. absurd (omega (arith, z)))
        (λ z. absurd (false≢true z)) (λ z. q) (λ z. absurd (false≢true z)) (λ z. absurd (omega (arith, z)))

    module _ (t : State) (h : t.at ≤ length s) where
      hour-read : (d : Option Date) (v : Verdict) → ReadingRow e f s (examining k (with_hour t d v))
      unfolding with_hour done among
      hour-read d NotSaid = finished-read t.at d _ _ _ _ h
      hour-read d Impossible = nine 2 refl
      hour-read d (Open a b) = ten 2 (Some (Hours a b)) refl
      hour-read d (Agreed k) = finished-read t.at d _ _ _ _ h

      day-read : (v w : Verdict) → ReadingRow e f s (examining k (with_day t v w))
      unfolding with_day among
      day-read NotSaid w = hour-read _ w
      day-read Impossible w = nine 1 refl
      day-read (Open a b) w = ten 1 _ refl
      day-read (Agreed k) w = hour-read _ w

  module _ (t : State) (h : t.at ≤ length s) where
    searched-read : (x : Result Judged OverBudget) (w : Verdict) → ((b : ℕ) → x ≡ Err (over_by b) → e ≡ Within b)
        → ReadingRow e f s (with_searched t x w)
    unfolding with_searched
    searched-read (Ok j) w q = day-read j.examined t h j.verdict w
    searched-read (Err o) w q = budget-read o.budget (q o.budget refl)

  -- with the forms of names, which only a finished one has
  named-read : (fs : Forms) (r : Reading) → ReadingRow e f s r → ReadingRow e f s (naming fs r)
  unfolding naming
  named-read fs r w =
      record {
        listed = w.listed;
        no_day = w.no_day;
        no_hour = w.no_hour;
        no_minute = w.no_minute;
        no_second = w.no_second;
        no_offset = w.no_offset;
        no_forms_lem = λ z. rw (ne_eqb r.number 0 z);
        unshown = w.unshown;
        place_1_5 = w.place_1_5;
        place_3 = w.place_3;
        place_0_6_7_8 = w.place_0_6_7_8;
        place_9_10 = w.place_9_10;
        place_11 = w.place_11;
        none_examined = w.none_examined;
        examined_11 = w.examined_11;
      }

  concluded-read : (t : State) (fs : Forms) (o : Result (Unit {0}) Refused) → t.at ≤ length s → Placed s o
      → ReadingRow e f s (concluded e t fs o)
  unfolding concluded judged Placed among
  concluded-read t fs (Ok u) h p =
      named-read fs (judged e t) (searched-read t h (searched e t.facts) _ (λ b q. searched_over e t.facts q))
  concluded-read t fs (Err (Mismatch q)) h p = text-read 6 q refl refl (λ z. omega (arith, z)) refl (λ z. omega (arith, z)) p
  concluded-read t fs (Err (Range q)) h p = text-read 7 q refl refl (λ z. omega (arith, z)) refl (λ z. omega (arith, z)) p
  concluded-read t fs (Err (Conflict q)) h p = text-read 8 q refl refl (λ z. omega (arith, z)) refl (λ z. omega (arith, z)) p

  format_read : ReadingRow e f s (reader.by_format e f s)
  unfolding reader.by_format read_by among start
  format_read = go (opening Reader f).ended refl
    where
      go : (d : Ended) → (opening Reader f).ended ≡ d → ReadingRow e f s (reader.by_format e f s)
      go Whole q =
          let r = read_all (opening Reader f).elements s start no_forms in
          let w = all_within (opening Reader f).elements s start no_forms (omega arith) in
          rw q (concluded-read r.state r.forms r.outcome w.0 w.1)
      go (BadAt p) q =
          rw q
          (early-read 3 p refl (λ z. absurd (false≢true z)) (λ z. bad_within Reader f q) (λ z. absurd (false≢true z)) refl
          (λ z. omega (arith, z)))

  pub reading_rows : ReadingRow e f s (reading_by e f s)
  unfolding reading_by reader.unless_long among
  reading_rows =
      let zero : (n : ℕ) → OneOf reading_numbers n → (n ≡ 3 → ⊥) → among n (0 ∷ 6 ∷ 7 ∷ 8 ∷ []) ≡ false
      → among n (9 ∷ 10 ∷ []) ≡ false → (n ≡ 11 → ⊥) → ReadingRow e f s (reader.refused n 0) = λ n l three text nine eleven.
      early-read n 0 l (λ z. refl) (λ z. absurd (three z)) (λ z. absurd (false≢true (sym text ∙ z))) nine eleven in
      picked (ReadingRow e f s) (leb (length f) longest)
      (picked (ReadingRow e f s) (leb (length s) longest) format_read
      (zero 5 refl (λ z. omega (arith, z)) refl refl (λ z. omega (arith, z))))
      (zero 1 refl (λ z. omega (arith, z)) refl refl (λ z. omega (arith, z)))
