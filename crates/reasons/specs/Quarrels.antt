-- Which facts quarrel, where no day or no hour agrees with all of them (RULES 8.5).
use Rattle.std.specs.Prelude.{ℕ, Bool, true, false, cond, not, ◌&&◌, List, [], ◌∷◌, eqb, set}
use Rattle.conversions.specs.Conversions.{among}
use Rattle.agreement.specs.Agreement.{said, hour_agrees}
use Rattle.agreement.specs.Search.{first_two}
use Rattle.agreement.specs.Verdicts.{days_found}
use Rattle.agreement.specs.declared.Facts.{Facts}
use Rattle.agreement.specs.declared.Found.{Found}
use Rattle.agreement.specs.declared.Found.TheVariants.{Nothing, One, Two}
use Rattle.kinds.specs.Kinds.{day_kinds, hour_kinds}
use Rattle.reasons.specs.declared.About.{About}
use Rattle.reasons.specs.declared.About.TheVariants.{Day, Hour}

-- the kinds that bear on the day, and on the hour, in order
unfoldable pub kinds_of : About → List ℕ
kinds_of Day = day_kinds
kinds_of Hour = hour_kinds

unfoldable pub is_nothing : Found → Bool
is_nothing Nothing = true
is_nothing (One a) = false
is_nothing (Two a b) = false

-- no day, or no hour, agrees with some facts
unfoldable pub none_agrees : About → Facts → Bool
none_agrees Day f = is_nothing (days_found f)
none_agrees Hour f = is_nothing (first_two (hour_agrees f) 0 24)

-- the facts without those of kind k
unfoldable pub without : ℕ → Facts → Facts
without k f = record { said = set f.said k 0 }

-- a kind is tried: it is left out if its absence still leaves no agreement
unfoldable pub tried : About → ℕ → Facts → Facts
tried a k f = cond (none_agrees a (without k f)) (without k f) f

-- kinds are tried one after the other
unfoldable pub all_tried : About → List ℕ → Facts → Facts
all_tried a [] f = f
all_tried a (k ∷ ks) f = all_tried a ks (tried a k f)

-- what is left of some facts once all kinds were tried, in order
unfoldable pub quarrelling : About → Facts → Facts
quarrelling a f = all_tried a (kinds_of a) f

-- some facts have one of kind k, which bears on what is judged
abbrev pub has_kind : About → Facts → ℕ → Bool
has_kind a f k = among k (kinds_of a) && not (eqb (said f k) 0)

-- kind k is named: it is left
unfoldable pub is_named : About → Facts → ℕ → Bool
is_named a f k = has_kind a (quarrelling a f) k

-- everything here, for proofs that compute
unfoldable pub computes : Unit {0}
unfolding kinds_of is_nothing none_agrees without tried all_tried quarrelling is_named
computes = tt
