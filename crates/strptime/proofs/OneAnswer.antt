-- An answer is fixed by its reading: where a promise says what `reading_of` gives of an answer, it says all of the answer.
-- Assumes nothing.
use Prim.Native.Nat.{ℕ}
use mathlib.Core.Bool.{cond}
use mathlib.Core.Path.{◌≡◌, refl, sym, ap, ◌∙◌}
use lib.Dec.{eqb}
use Rattle.std.specs.Prelude.{None, Option, Some, Ok, Err, Result}
use Rattle.strptime.specs.Answers.{showing, refused, finished, naming, examining, over_budget, refusal_of, reading_of}
use Rattle.strptime.specs.declared.Done.{Done}
use Rattle.strptime.specs.declared.ReadRefusal.{ReadRefusal}
use Rattle.strptime.specs.declared.ReadRefusal.TheVariants.{FormatTooLong, TextTooLong, BadConversion}
use Rattle.strptime.specs.declared.ReadRefusal.TheVariants.{NoMatch, OutOfRange, Contradiction}
use Rattle.strptime.specs.declared.ReadRefusal.TheVariants.{NoDay, NoHour, OpenDay, OpenHour, OverBudget}
use Rattle.strptime.specs.declared.Reading.{Reading}
use Rattle.strptime.specs.declared.Shown.TheVariants.{Days, Hours}
use Rattle.strptime.specs.declared.Shown.{Shown}

abbrev Answer : Type 0
Answer = Result Done ReadRefusal

-- the refusal by 10, by what is shown
opened : ℕ → Option Shown → ReadRefusal
opened n None = FormatTooLong
opened n (Some (Days a b)) = OpenDay a b n
opened n (Some (Hours a b)) = OpenHour a b n

-- the refusal of a reading, by its number and place
refusal : Reading → ReadRefusal
refusal r =
    let n = r.number in
    let p = r.place in
    let x = r.examined in
    cond (eqb n 1) FormatTooLong
    (cond (eqb n 5) TextTooLong
    (cond (eqb n 3) (BadConversion p)
    (cond (eqb n 6) (NoMatch p)
    (cond (eqb n 7) (OutOfRange p)
    (cond (eqb n 8) (Contradiction p)
    (cond (eqb n 11) (OverBudget p)
    (cond (eqb n 9) (cond (eqb p 1) (NoDay x) (NoHour x))
    (opened x r.shown))))))))

finish : Reading → Done
finish r =
    record {
      unread = r.place;
      day = r.day;
      hour = r.hour;
      minute = r.minute;
      second = r.second;
      offset = r.offset;
      forms = r.forms;
      examined = r.examined;
    }

answer_of : Reading → Answer
answer_of r = cond (eqb r.number 0) (Ok (finish r)) (Err (refusal r))

answer_back : (a : Answer) → answer_of (reading_of a) ≡ a
unfolding answer_of opened refusal finish reading_of refusal_of naming examining over_budget finished refused showing
answer_back (Ok d) = refl
answer_back (Err FormatTooLong) = refl
answer_back (Err TextTooLong) = refl
answer_back (Err (BadConversion p)) = refl
answer_back (Err (NoMatch p)) = refl
answer_back (Err (OutOfRange p)) = refl
answer_back (Err (Contradiction p)) = refl
answer_back (Err (OverBudget b)) = refl
answer_back (Err (NoDay n)) = refl
answer_back (Err (NoHour n)) = refl
answer_back (Err (OpenDay a b n)) = refl
answer_back (Err (OpenHour a b n)) = refl

pub one_answer : (a b : Answer) → reading_of a ≡ reading_of b → a ≡ b
one_answer a b e = sym (answer_back a) ∙ ap answer_of e ∙ answer_back b
