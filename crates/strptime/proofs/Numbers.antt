-- What is shown with which number: two days or two hours with 10, and nothing with any other.
-- Assumes nothing.
use Prim.Native.Nat.{ℕ, ◌≤◌}
use mathlib.Core.List.{List}
use mathlib.Core.Path.{◌≡◌, refl}
use lib.Dec.{eqb, leb, lit≤}
use lib.ListN.{length}
use Rattle.calendar.specs.declared.Date.{Date}
use Rattle.format.specs.Opening.{longest, most_elements, elements_in}
use Rattle.format.specs.declared.opening.Side.TheVariants.{Reader}
use Rattle.agreement.specs.Verdicts.{hour_verdict}
use Rattle.agreement.specs.declared.Verdict.{Verdict}
use Rattle.agreement.specs.declared.Verdict.TheVariants.{Unsaid, Impossible, Open, Agreed}
use Rattle.judge.specs.Engines.{searched}
use Rattle.judge.specs.declared.Engine.{Engine}
use Rattle.agreement.proofs.Demand.{hour_judged}
use Rattle.laws.proofs.Cases.{picked}
use Rattle.matching.specs.Steps.{start, no_forms, read_all}
use Rattle.matching.specs.declared.Forms.{Forms}
use Rattle.matching.specs.declared.State.{State}
use Rattle.strptime.specs.Answers.{showing, refused, finished, naming, examining, over_budget, done, with_hour, with_day, with_searched}
use Rattle.strptime.specs.Answers.{judged, concluded, read_by, by_elements, unless_long, elements_reading_by}
use Rattle.strptime.specs.declared.Reading.{Reading}
use Rattle.std.specs.Prelude.{Err, None, Ok, Option, Result, Some}
use Rattle.judge.specs.declared.Judged.{Judged}
use Rattle.judge.specs.declared.OverBudget.{OverBudget}
use Rattle.matching.specs.declared.Refused.TheVariants.{Conflict, Mismatch, Range}
use Rattle.matching.specs.declared.Refused.{Refused}
use Rattle.strptime.specs.declared.Shown.TheVariants.{Days, Hours}
use Rattle.strptime.specs.declared.Shown.{Shown}

-- what holds of numbers and what is shown with them holds of a reading's
module _ (P : ℕ → Option Shown → Type 0) (alone : (n : ℕ) → n ≤ 11 → P n None) (days : (a b : Date) → P 10 (Some (Days a b)))
    (hours : (a b : ℕ) → a ≤ 23 → b ≤ 23 → P 10 (Some (Hours a b))) where
  abbrev Has : Reading → Type 0
  Has r = P r.number r.shown

  module _ (t : State) where
    with-hour : (d : Option Date) (v : Verdict) → hour_verdict t.facts ≡ v → Has (with_hour t d v)
    unfolding with_hour done showing refused finished
    with-hour d Unsaid e = alone 0 (lit≤ tt)
    with-hour d Impossible e = alone 9 (lit≤ tt)
    with-hour d (Open a b) e = let j = (((hour_judged t.facts).«open» a b).0 e).1 in hours a b j.is_first j.is_second
    with-hour d (Agreed k) e = alone 0 (lit≤ tt)

    with-day : (v : Verdict) → Has (with_day t v (hour_verdict t.facts))
    unfolding with_day showing refused
    with-day Unsaid = with-hour _ _ refl
    with-day Impossible = alone 9 (lit≤ tt)
    with-day (Open a b) = days _ _
    with-day (Agreed k) = with-hour _ _ refl

    with-searched : (x : Result Judged OverBudget) → Has (with_searched t x (hour_verdict t.facts))
    unfolding with_searched examining over_budget showing refused
    with-searched (Ok j) = with-day j.verdict
    with-searched (Err o) = alone 11 (lit≤ tt)

  module _ (e : Engine) where
    concludes : (t : State) (fs : Forms) (o : Result (Unit {0}) Refused) → Has (concluded e t fs o)
    unfolding concluded naming judged showing refused
    concludes t fs (Ok u) = with-searched t (searched e t.facts)
    concludes t fs (Err (Mismatch p)) = alone 6 (lit≤ tt)
    concludes t fs (Err (Range p)) = alone 7 (lit≤ tt)
    concludes t fs (Err (Conflict p)) = alone 8 (lit≤ tt)

    by_elements_lem : (es s : List ℕ) → Has (by_elements e es s)
    unfolding by_elements read_by showing refused
    by_elements_lem es s =
        let r = read_all es s start no_forms in
        picked Has (eqb (elements_in Reader most_elements es) (length es)) (concludes r.state r.forms r.outcome) (alone 3 (lit≤ tt))

    pub elements_numbers : (es s : List ℕ) → Has (elements_reading_by e es s)
    unfolding elements_reading_by unless_long showing refused
    elements_numbers es s = picked Has (leb (length s) longest) (by_elements_lem es s) (alone 5 (lit≤ tt))
