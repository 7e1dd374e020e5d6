-- The reader's answers (RULES 3), and how it comes to them (RULES 8).
use Rattle.std.specs.Prelude.{ℕ, ◌-◌, cond, List, eqb, leb, length}
use Rattle.kinds.specs.Kinds as kinds
use Rattle.calendar.specs.Calendar.{date_of}
use Rattle.format.specs.Opening.{Ended, Whole, BadAt, opening, longest, most_elements, elements_in, entry_place}
use Rattle.format.specs.declared.opening.Side.TheVariants.{Reader}
use Rattle.agreement.specs.Agreement.{said}
use Rattle.agreement.specs.Verdicts.{hour_verdict}
use Rattle.agreement.specs.declared.Verdict.{Verdict}
use Rattle.agreement.specs.declared.Verdict.TheVariants.{Unsaid as NotSaid, Impossible, Open, Agreed}
use Rattle.judge.specs.Engines.{searched}
use Rattle.judge.specs.declared.Engine.{Engine}
use Rattle.judge.specs.declared.Engine.TheVariants.{Skipping}
use Rattle.matching.specs.Steps.{start, no_forms, read_all}
use Rattle.strptime.specs.declared.Done.{Done}
use Rattle.strptime.specs.declared.ReadRefusal.{ReadRefusal}
use Rattle.strptime.specs.declared.ReadRefusal.TheVariants.{FormatTooLong, TextTooLong, BadConversion}
use Rattle.strptime.specs.declared.ReadRefusal.TheVariants.{NoMatch, OutOfRange, Contradiction}
use Rattle.strptime.specs.declared.ReadRefusal.TheVariants.{NoDay, NoHour, OpenDay, OpenHour, OverBudget as TooFew}
use Rattle.matching.specs.declared.Forms.{Forms}
use Rattle.strptime.specs.declared.Reading.{Reading}
use Rattle.matching.specs.declared.State.{State}
use Rattle.values.specs.Offsets.{offset_of}
use Rattle.std.specs.Prelude.{Err, None, Ok, Option, Result, Some, ℤ}
use Rattle.calendar.specs.declared.Date.{Date}
use Rattle.judge.specs.declared.Judged.{Judged}
use Rattle.judge.specs.declared.OverBudget.{OverBudget}
use Rattle.matching.specs.declared.Refused.TheVariants.{Mismatch, Range, Conflict}
use Rattle.matching.specs.declared.Refused.{Refused}
use Rattle.strptime.specs.declared.Shown.TheVariants.{Days, Hours}
use Rattle.strptime.specs.declared.Shown.{Shown}

-- ---- the numbers

-- a number and a place, and what is shown; all else is unsaid, no name has a form, and no day was examined
unfoldable pub showing : ℕ → ℕ → Option Shown → Reading
showing n p x =
    record {
      number = n;
      place = p;
      day = None;
      hour = None;
      minute = None;
      second = None;
      offset = None;
      forms = no_forms;
      shown = x;
      examined = 0;
    }

unfoldable pub refused : ℕ → ℕ → Reading
refused n p = showing n p None

-- 0, with the first offset that was not read, and what is said of day, hour, minute, second and zone offset
unfoldable pub finished : ℕ → Option Date → Option ℕ → Option ℕ → Option ℕ → Option ℤ → Reading
finished p d h m s o =
    record {
      number = 0;
      place = p;
      day = d;
      hour = h;
      minute = m;
      second = s;
      offset = o;
      forms = no_forms;
      shown = None;
      examined = 0;
    }

-- a reading with the forms of the names that were read: a refused one gives none
unfoldable pub naming : Forms → Reading → Reading
naming fs r =
    record {
      number = r.number;
      place = r.place;
      day = r.day;
      hour = r.hour;
      minute = r.minute;
      second = r.second;
      offset = r.offset;
      forms = cond (eqb r.number 0) fs no_forms;
      shown = r.shown;
      examined = r.examined;
    }

-- a reading with the days that were examined for it
unfoldable pub examining : ℕ → Reading → Reading
examining n r =
    record {
      number = r.number;
      place = r.place;
      day = r.day;
      hour = r.hour;
      minute = r.minute;
      second = r.second;
      offset = r.offset;
      forms = r.forms;
      shown = r.shown;
      examined = n;
    }

-- 11, at the budget, which is reported too
unfoldable pub over_budget : ℕ → Reading
over_budget b = examining b (refused 11 b)

-- the number, place and values of each answer
unfoldable pub refusal_of : ReadRefusal → Reading
refusal_of FormatTooLong = refused 1 0
refusal_of TextTooLong = refused 5 0
refusal_of (BadConversion p) = refused 3 p
refusal_of (NoMatch p) = refused 6 p
refusal_of (OutOfRange p) = refused 7 p
refusal_of (Contradiction p) = refused 8 p
refusal_of (TooFew b) = over_budget b
refusal_of (NoDay n) = examining n (refused 9 1)
refusal_of (NoHour n) = examining n (refused 9 2)
refusal_of (OpenDay a b n) = examining n (showing 10 1 (Some (Days a b)))
refusal_of (OpenHour a b n) = examining n (showing 10 2 (Some (Hours a b)))

unfoldable pub reading_of : Result Done ReadRefusal → Reading
reading_of (Ok d) = naming d.forms (examining d.examined (finished d.unread d.day d.hour d.minute d.second d.offset))
reading_of (Err r) = refusal_of r

-- ---- 11, 9 and 10

-- what was said of a kind, as an answer gives it
unfoldable pub said_of : ℕ → Option ℕ
said_of s = cond (eqb s 0) None (Some (s - 1))

-- a finished reading has the minute, the second and the zone offset as they were said
unfoldable pub done : State → Option Date → Option ℕ → Reading
done t d h =
    finished t.at d h (said_of (said t.facts kinds.minute)) (said_of (said t.facts kinds.second))
    (offset_of (said t.facts kinds.zone_offset))

-- then 9 or 10 for the hour, which hand out no day though one may have agreed
unfoldable pub with_hour : State → Option Date → Verdict → Reading
with_hour t d NotSaid = done t d None
with_hour t d Impossible = refused 9 2
with_hour t d (Open a b) = showing 10 2 (Some (Hours a b))
with_hour t d (Agreed h) = done t d (Some h)

-- 9 or 10 for the day first, by the verdicts on the day and on the hour
unfoldable pub with_day : State → Verdict → Verdict → Reading
with_day t NotSaid w = with_hour t None w
with_day t Impossible w = refused 9 1
with_day t (Open a b) w = showing 10 1 (Some (Days (date_of a) (date_of b)))
with_day t (Agreed k) w = with_hour t (Some (date_of k)) w

-- 11 in their place where the engine's budget is too small
unfoldable pub with_searched : State → Result Judged OverBudget → Verdict → Reading
with_searched t (Ok j) w = examining j.examined (with_day t j.verdict w)
with_searched t (Err o) w = over_budget o.budget

unfoldable pub judged : Engine → State → Reading
judged e t = with_searched t (searched e t.facts) (hour_verdict t.facts)

-- ---- the whole order, by an engine

-- 6, 7 or 8 where the reading of the elements met one, else the judging, with the forms of names
unfoldable pub concluded : Engine → State → Forms → Result (Unit {0}) Refused → Reading
concluded e t fs (Ok u) = naming fs (judged e t)
concluded e t fs (Err (Mismatch p)) = refused 6 p
concluded e t fs (Err (Range p)) = refused 7 p
concluded e t fs (Err (Conflict p)) = refused 8 p

-- a text read by elements
unfoldable pub read_by : Engine → List ℕ → List ℕ → Reading
read_by e es s = let r = read_all es s start no_forms in concluded e r.state r.forms r.outcome

-- 3, then by the elements of a format
unfoldable pub by_format : Engine → List ℕ → List ℕ → Reading
by_format e f s = go (opening Reader f).ended
  where
    go : Ended → Reading
    go Whole = read_by e (opening Reader f).elements s
    go (BadAt p) = refused 3 p

-- The same by the elements of a format that was opened before: 3 at the first entry that is no element for reading. Its place is the
-- offset of its % where it is an element for writing, else its index.
unfoldable pub by_elements : Engine → List ℕ → List ℕ → Reading
by_elements e es s =
    let good = elements_in Reader most_elements es in
    let read = read_by e es s in
    cond (eqb good (length es)) read (refused 3 (entry_place es good))

-- 5, then the rest
unfoldable pub unless_long : List ℕ → Reading → Reading
unless_long s rest = cond (leb (length s) longest) rest (refused 5 0)

-- the whole order: 1, 5, 3, then the elements, then the day, then the hour
unfoldable pub reading_by : Engine → List ℕ → List ℕ → Reading
reading_by e f s = let rest = unless_long s (by_format e f s) in cond (leb (length f) longest) rest (refused 1 0)

-- by elements: 5, 3, and so on
unfoldable pub elements_reading_by : Engine → List ℕ → List ℕ → Reading
elements_reading_by e es s = unless_long s (by_elements e es s)

-- both by the engine that skips
abbrev pub reading : List ℕ → List ℕ → Reading
reading f s = reading_by Skipping f s

abbrev pub elements_reading : List ℕ → List ℕ → Reading
elements_reading es s = elements_reading_by Skipping es s

-- everything here, for proofs that compute
unfoldable pub computes : Unit {0}
unfolding showing refused finished naming examining over_budget refusal_of reading_of said_of done with_hour with_day with_searched judged
    concluded read_by by_format by_elements unless_long reading_by elements_reading_by
computes = tt
