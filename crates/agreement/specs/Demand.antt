-- What a verdict tells of the facts that it is judged by (RULES 8): the ground of demand 3, which `demands` states with the writer's own
-- bytes. Days go by their day numbers.
use Rattle.std.specs.Prelude.{ℕ, suc, ◌≤◌, ◌<◌, ◌↔◌, ◌≡◌}
use mathlib.Core.List.{List, Memᴰ as Member}
use Rattle.calendar.specs.Calendar.{days, date_of}
use Rattle.agreement.specs.Agreement.{said}
use Rattle.agreement.specs.declared.Facts.{Facts}
use Rattle.agreement.specs.declared.Verdict.{Verdict}
use Rattle.agreement.specs.declared.Verdict.TheVariants.{Unsaid, Impossible, Open, Agreed}
use Rattle.kinds.specs.Kinds.{day_kinds, hour_kinds}
use Rattle.values.specs.Values.{date_value, hour_value}

-- no fact of some kinds was said; none that bears on the day, and none that bears on the hour
abbrev pub NoneSaid : Facts → List ℕ → Type 0
NoneSaid f ks = (k : ℕ) → Member k ks → said f k ≡ 0

abbrev pub NoDayFact : Facts → Type 0
NoDayFact f = NoneSaid f day_kinds

abbrev pub NoHourFact : Facts → Type 0
NoHourFact f = NoneSaid f hour_kinds

-- a day, and an hour
abbrev pub IsDay : ℕ → Type 0
IsDay k = (1 ≤ k) × (k ≤ days)

abbrev pub IsHour : ℕ → Type 0
IsHour h = h ≤ 23

-- a day, and an hour, agree with every fact that bears on them: for each kind that does, of which a number was said, the kind's value is
-- that number
abbrev pub AllAgree : Facts → List ℕ → (ℕ → ℕ) → Type 0
AllAgree f ks value = (k n : ℕ) → Member k ks → said f k ≡ suc n → value k ≡ n

abbrev pub DayAgrees : Facts → ℕ → Type 0
DayAgrees f d = AllAgree f day_kinds (λ k. date_value k (date_of d))

abbrev pub HourAgrees : Facts → ℕ → Type 0
HourAgrees f h = AllAgree f hour_kinds (λ k. hour_value k h)

-- a is the only one that agrees
pub record Only (One : ℕ → Type 0) (Agrees : ℕ → Type 0) (a : ℕ) : Type 0 where
  pub is : One a
  pub agrees : Agrees a
  pub alone : (k : ℕ) → One k → Agrees k → k ≡ a

-- a and b are the two earliest that agree, the earlier first
pub record Earliest (One : ℕ → Type 0) (Agrees : ℕ → Type 0) (a b : ℕ) : Type 0 where
  pub is_first : One a
  pub is_second : One b
  pub first_agrees : Agrees a
  pub second_agrees : Agrees b
  pub earlier : a < b
  pub none_before : (k : ℕ) → One k → Agrees k → k < b → k ≡ a

-- unsaid, impossible (9), open (10) with the two earliest shown, or the one that agrees
pub record Judged (None : Type 0) (One : ℕ → Type 0) (Agrees : ℕ → Type 0) (v : Verdict) : Type 0 where
  pub unsaid : (v ≡ Unsaid) ↔ None
  pub impossible : (v ≡ Impossible) ↔ ((k : ℕ) → One k → Agrees k → ⊥)
  pub «open» : (a b : ℕ) → (v ≡ Open a b) ↔ ((None → ⊥) × Earliest One Agrees a b)
  pub agreed : (a : ℕ) → (v ≡ Agreed a) ↔ ((None → ⊥) × Only One Agrees a)

-- the day, and the hour, judged by all facts that bear on it
abbrev pub DayJudged : Facts → Verdict → Type 0
DayJudged f v = Judged (NoDayFact f) IsDay (DayAgrees f) v

abbrev pub HourJudged : Facts → Verdict → Type 0
HourJudged f v = Judged (NoHourFact f) IsHour (HourAgrees f) v
