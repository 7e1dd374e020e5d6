-- Places that a reading answers are offsets of its text or its format, or 1 or 2, or the engine's budget: but for the last none is above
-- 1,024.
-- Assumes nothing.
use Prim.Native.Nat.{ℕ, ◌≤◌, ◌<◌, ◌^◌}
use mathlib.Core.Bool.{true, not, ◌&&◌}
use mathlib.Core.List.{List, [], ◌∷◌}
use mathlib.Core.Path.{◌≡◌, refl, ap}
use native.Mathlib.Omega.{arith}
use borrow.Author.Tests.{leb-true}
use lib.Dec.{eqb, leb}
use lib.ListN.{length, get_or}
use Rattle.laws.proofs.Cases.{either, picked}
use Rattle.format.specs.Opening.{Ended, opening, longest, most_elements, is_element, elements_in, entry_place}
use Rattle.format.specs.Opening.Ended.{Whole, BadAt}
use Rattle.format.specs.declared.opening.Side.TheVariants.{Writer, Reader}
use Rattle.format.proofs.Entries.{counted_few}
use Rattle.format.proofs.Refused.{bad_within}
use Rattle.agreement.specs.declared.Verdict.{Verdict}
use Rattle.agreement.specs.declared.Verdict.TheVariants.{Unsaid, Impossible, Open, Agreed}
use Rattle.judge.specs.Engines.{searched}
use Rattle.judge.specs.declared.Engine.{Engine}
use Rattle.judge.specs.declared.Engine.TheVariants.{Skipping, Plain, Within as Budget}
use Rattle.judge.proofs.Engines.{searched_over}
use Rattle.strptime.specs.Answers.{showing, refused, finished, naming, examining, over_budget, done, with_hour, with_day, with_searched}
use Rattle.strptime.specs.Answers.{judged, concluded, read_by, by_format, by_elements, unless_long, reading_by, elements_reading_by}
use Rattle.strptime.specs.Answers.{reading, elements_reading}
use Rattle.matching.specs.Steps.{start, stays, no_forms, step_on, is_read, read_all}
use Rattle.matching.specs.declared.Forms.{Forms}
use Rattle.strptime.specs.declared.Reading.{Reading}
use Rattle.matching.specs.declared.State.{State}
use Rattle.matching.proofs.Walk.{Placed, Within, step_placed}
use Rattle.std.specs.Prelude.{Err, Ok, Option, Result}
use Rattle.calendar.specs.declared.Date.{Date}
use Rattle.judge.specs.Engines.{over_by}
use Rattle.judge.specs.declared.Judged.{Judged}
use Rattle.judge.specs.declared.OverBudget.{OverBudget}
use Rattle.matching.specs.declared.Refused.TheVariants.{Conflict, Mismatch, Range}
use Rattle.matching.specs.declared.Refused.{Refused}

pub all_within : (es s : List ℕ) (t : State) (fs : Forms) → t.at ≤ length s → Within s (read_all es s t fs)
unfolding read_all stays Placed
all_within [] s t fs h = (h, tt)
all_within (e ∷ es) s t fs h =
    let r = step_on e s t fs in
    let w = step_placed e s t fs h in
    picked (Within s) (is_read r.outcome) (all_within es s r.state r.forms w.0) w

module _ (t : State) (n : ℕ) (h : t.at ≤ n) (l : longest ≤ n) where
  hour-place : (d : Option Date) (v : Verdict) → (with_hour t d v).place ≤ n
  unfolding with_hour done showing refused finished
  hour-place d Unsaid = h
  hour-place d Impossible = omega arith
  hour-place d (Open a b) = omega arith
  hour-place d (Agreed k) = h

  day-place : (v w : Verdict) → (with_day t v w).place ≤ n
  unfolding with_day showing refused
  day-place Unsaid w = hour-place _ w
  day-place Impossible w = omega arith
  day-place (Open a b) w = omega arith
  day-place (Agreed k) w = hour-place _ w

  searched-place : (x : Result Judged OverBudget) (w : Verdict) → ((b : ℕ) → x ≡ Err (over_by b) → b ≤ n) → (with_searched t x w).place ≤ n
  unfolding with_searched examining over_budget showing refused
  searched-place (Ok j) w m = day-place _ _
  searched-place (Err o) w m = m o.budget refl

-- an engine, and a bound of the longest format and text and of the engine's budget
unfoldable pub budget : Engine → ℕ
budget Skipping = 0
budget Plain = 0
budget (Budget b) = b

module _ (e : Engine) (n : ℕ) (l : longest ≤ n) (m : budget e ≤ n) where
  judged-place : (t : State) → t.at ≤ n → (judged e t).place ≤ n
  unfolding judged budget
  judged-place t h =
      searched-place t n h l (searched e t.facts) _
      (λ b q. omega (arith, m, ap budget (searched_over e t.facts q)))

  module _ (s : List ℕ) (short : length s ≤ longest) where
    concluded-place : (t : State) (fs : Forms) (o : Result (Unit {0}) Refused) → t.at ≤ length s → Placed s o
        → (concluded e t fs o).place ≤ n
    unfolding concluded naming showing refused Placed
    concluded-place t fs (Ok u) h p = judged-place t (omega arith)
    concluded-place t fs (Err (Mismatch q)) h p = omega arith
    concluded-place t fs (Err (Range q)) h p = omega arith
    concluded-place t fs (Err (Conflict q)) h p = omega arith

    by_place : (es : List ℕ) → (read_by e es s).place ≤ n
    unfolding read_by start
    by_place es =
        let r = read_all es s start no_forms in
        let w = all_within es s start no_forms (omega arith) in
        concluded-place r.state r.forms r.outcome w.0 w.1

    format_place : (f : List ℕ) → length f ≤ longest → (by_format e f s).place ≤ n
    unfolding by_format showing refused
    format_place f h = go (opening Reader f).ended refl
      where
        go : (d : Ended) → (opening Reader f).ended ≡ d → (by_format e f s).place ≤ n
        go Whole q = rw q (by_place (opening Reader f).elements)
        go (BadAt p) q = rw q (omega (arith, bad_within Reader f q))

-- 0 for too long a text
unless_place : (s : List ℕ) (r : Reading) (n : ℕ) → (length s ≤ longest → r.place ≤ n) → (unless_long s r).place ≤ n
unfolding unless_long showing refused
unless_place s r n h =
    either (λ (x : Reading). x.place ≤ n) (leb (length s) longest)
    (λ (e : leb (length s) longest ≡ true). h (leb-true (length s) longest e))
    (λ _. omega arith)

-- the offset of a %, or the entry's index
entry_place_lem : (es : List ℕ) (k : ℕ) → k ≤ most_elements → entry_place es k ≤ most_elements
unfolding entry_place
entry_place_lem es k h =
    let e = get_or es k 0 in
    picked (λ p. p ≤ most_elements) (is_element Writer e && not (is_element Reader e)) (omega arith) h

-- ---- by any engine

pub place_by : (e : Engine) (n : ℕ) → longest ≤ n → budget e ≤ n → (f s : List ℕ) → (reading_by e f s).place ≤ n
unfolding reading_by showing refused
place_by e n l m f s =
    either (λ (r : Reading). r.place ≤ n) (leb (length f) longest)
    (λ (q : leb (length f) longest ≡ true).
    unless_place s _ n (λ h. format_place e n l m s h f (leb-true (length f) longest q)))
    (λ _. omega arith)

pub elements_place_by : (e : Engine) (n : ℕ) → most_elements ≤ n → budget e ≤ n → (es s : List ℕ) → (elements_reading_by e es s).place ≤ n
unfolding elements_reading_by by_elements showing refused
elements_place_by e n l m es s =
    let good = elements_in Reader most_elements es in
    unless_place s _ n
    (λ h.
    picked (λ (r : Reading). r.place ≤ n) (eqb good (length es))
    (by_place e n (omega arith) m s h es)
    (omega (arith, entry_place_lem es good (counted_few Reader most_elements es))))

-- a place fits 32 bits where the budget does
pub place_fits : (e : Engine) → budget e < 2 ^ 32 → (f s : List ℕ) → (reading_by e f s).place < 2 ^ 32
place_fits e m f s = omega (arith, place_by e 4294967295 (omega arith) (omega (arith, m)) f s)

pub elements_place_fits : (e : Engine) → budget e < 2 ^ 32 → (es s : List ℕ) → (elements_reading_by e es s).place < 2 ^ 32
elements_place_fits e m es s = omega (arith, elements_place_by e 4294967295 (omega arith) (omega (arith, m)) es s)

-- ---- by the engine that skips

pub reading_place : (f s : List ℕ) → (reading f s).place ≤ longest
reading_place f s = place_by Skipping longest (omega arith) (unfold budget in omega arith) f s

pub elements_place : (es s : List ℕ) → (elements_reading es s).place ≤ most_elements
elements_place es s = elements_place_by Skipping most_elements (omega arith) (unfold budget in omega arith) es s
