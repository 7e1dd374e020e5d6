-- How far a search goes: what that makes of the plain engine's answer, and what each engine gives.
-- Assumes nothing.
use Prim.Native.Nat.{ℕ, ◌+◌, ◌≤◌, ◌<◌}
use mathlib.Core.Bool.{Bool, true, false, cond}
use mathlib.Core.Path.{◌≡◌, refl, ap, ◌∙◌}
use native.Mathlib.Omega.{arith}
use borrow.Author.Tests.{le-leb, lt-leb}
use lib.Dec.{leb}
use Rattle.std.specs.Prelude.{Some, None}
use Rattle.calendar.specs.Calendar.{days}
use Rattle.agreement.specs.Agreement.{day_agrees, day_borne}
use Rattle.agreement.specs.Search.{is_two, first_two, through}
use Rattle.agreement.specs.Verdicts.{verdict_of, days_found, day_verdict}
use Rattle.agreement.specs.declared.Facts.{Facts}
use Rattle.agreement.specs.declared.Found.{Found}
use Rattle.agreement.specs.declared.Verdict.TheVariants.{Unsaid}
use Rattle.judge.specs.Engines.{last_examined, plain_count, counted, plain_searched, searched}
use Rattle.judge.specs.Private.{scan, scanned, plainly, skipping_judged}
use Rattle.judge.specs.declared.Engine.{Engine}
use Rattle.judge.specs.declared.Engine.TheVariants.{Skipping, Plain, Within}
use Rattle.judge.specs.declared.plain.Scan.{Scan}
use Rattle.laws.proofs.Cases.{clash}
use Rattle.agreement.proofs.SoFar.{SoFar}
use Rattle.agreement.proofs.Through.{so_far_through, last_in}
use Rattle.std.specs.Prelude.{Err, Ok}
use Rattle.judge.specs.Engines.{judged_by, over_by}

-- a scan's two ways out: its budget is used up with a day left to examine, or the search is over
module _ (f : Facts) (budget : ℕ) where
  pub over_budget_lem : (h : Found) → SoFar (day_agrees f) 1 days (budget + 1) h → is_two h ≡ false → budget < days
      → None ≡ scanned budget f
  unfolding scanned plain_count last_examined days_found
  over_budget_lem h s e l =
      let n = so_far_through (day_agrees f) days (budget + 1) h s e (omega arith) in
      rw (lt-leb (through days (first_two (day_agrees f) 1 days)) budget (omega (arith, n)))

  pub within_budget : (h : Found) (examined : ℕ) → h ≡ first_two (day_agrees f) 1 days → examined ≡ through days h → examined ≤ budget
      → Some (scan h examined) ≡ scanned budget f
  unfolding scanned plain_count last_examined days_found
  within_budget h examined e t l =
      let n : examined ≡ through days (first_two (day_agrees f) 1 days) = t ∙ ap (through days) e in
      rw (le-leb (through days (first_two (day_agrees f) 1 days)) budget (omega (arith, n)), e, n)

-- what the engine makes of a scan
module _ (f : Facts) (budget : ℕ) where
  pub ended_plainly : (x : Scan) → scanned budget f ≡ Some x → Ok (judged_by (verdict_of x.found) x.examined) ≡ plainly budget f
  unfolding scanned plainly
  ended_plainly x = go (leb (plain_count f) budget)
    where
      go : (t : Bool) → cond t (Some (scan (days_found f) (plain_count f))) None ≡ Some x
          → Ok (judged_by (verdict_of x.found) x.examined)
          ≡ cond t (Ok (judged_by (verdict_of (days_found f)) (plain_count f))) (Err (over_by budget))
      go true e = let a : record { found = days_found f; examined = plain_count f } ≡ x = cc in rw (← a)
      go false e = clash (cc)

  pub over_plainly : scanned budget f ≡ None → Err (over_by budget) ≡ plainly budget f
  unfolding scanned plainly
  over_plainly = go (leb (plain_count f) budget)
    where
      go : (t : Bool) → cond t (Some (scan (days_found f) (plain_count f))) None ≡ None
          → Err (over_by budget) ≡ cond t (Ok (judged_by (verdict_of (days_found f)) (plain_count f))) (Err (over_by budget))
      go true e = clash (cc)
      go false e = refl

-- what each engine gives where a fact bears on the day, and where none does
module _ (f : Facts) (e : day_borne f ≡ true) where
  pub skipping_borne : Ok (skipping_judged f) ≡ searched Skipping f
  unfolding searched skipping_judged counted day_verdict
  skipping_borne = rw e

  pub within_borne : (budget : ℕ) → plainly budget f ≡ searched (Within budget) f
  unfolding searched plain_searched plainly counted day_verdict
  within_borne budget = rw e

  -- a budget of all days is enough
  pub plain_borne : (budget : ℕ) → days ≤ budget → plainly budget f ≡ searched Plain f
  unfolding searched plain_searched plainly plain_count last_examined counted day_verdict
  plain_borne budget h = rw (e, le-leb (through days (days_found f)) budget (omega (arith, last_in f)))

pub unborne : (engine : Engine) (f : Facts) → day_borne f ≡ false → Ok (judged_by Unsaid 0) ≡ searched engine f
unfolding searched plain_searched counted day_verdict
unborne Skipping f e = rw e
unborne Plain f e = rw e
unborne (Within budget) f e = rw (e, le-leb 0 budget (omega arith))
