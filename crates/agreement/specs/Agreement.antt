-- Facts and agreement (RULES 7, RULES 8). A fact is a kind with a number; AM is 0 and PM is 1.
use Rattle.std.specs.Prelude.{ℕ, ◌-◌, Bool, true, cond, not, List, eqb, get_or}
use Rattle.calendar.specs.Calendar.{date_of}
use Rattle.calendar.specs.declared.Date.{Date}
use Rattle.agreement.specs.declared.Facts.{Facts}
use Rattle.kinds.specs.Kinds.{day_kinds, hour_kinds}
use Rattle.laws.specs.Lists.{every}
use Rattle.values.specs.Values.{date_value, hour_value}

-- what was said of kind k: 0 where nothing was, else one more than the number
abbrev pub said : Facts → ℕ → ℕ
said f k = get_or f.said k 0

-- nothing was said of any of some kinds
abbrev pub none_said : Facts → List ℕ → Bool
none_said f ks = every (λ k. eqb (said f k) 0) ks

-- a fact bears on the day, and on the hour
unfoldable pub day_borne : Facts → Bool
day_borne f = not (none_said f day_kinds)

unfoldable pub hour_borne : Facts → Bool
hour_borne f = not (none_said f hour_kinds)

-- what was said of a kind, if anything was, is the value v
unfoldable pub agrees : ℕ → ℕ → Bool
agrees s v = let same = eqb (s - 1) v in cond (eqb s 0) true same

-- the same for each of some kinds and its value
abbrev pub all_agree : Facts → List ℕ → (ℕ → ℕ) → Bool
all_agree f ks value = every (λ k. agrees (said f k) (value k)) ks

-- a date, and an hour, agree with every fact that bears on them: the writer would write each of those facts
unfoldable pub date_agrees : Facts → Date → Bool
date_agrees f t = all_agree f day_kinds (λ k. date_value k t)

unfoldable pub day_agrees : Facts → ℕ → Bool
day_agrees f k = date_agrees f (date_of k)

unfoldable pub hour_agrees : Facts → ℕ → Bool
hour_agrees f h = all_agree f hour_kinds (λ k. hour_value k h)

-- everything here, and what it is made of, for proofs that compute
unfoldable pub computes : Unit {0}
unfolding every day_kinds hour_kinds day_borne hour_borne agrees date_agrees day_agrees hour_agrees
computes = tt
