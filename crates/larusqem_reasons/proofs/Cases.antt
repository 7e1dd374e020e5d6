-- Every case of Cases has the words that it must have: one statement, by computing.
-- Assumes nothing.
use mathlib.Core.List.{map}
use mathlib.Core.Path.{◌≡◌, refl}
use Rattle.laws.specs.Lists.{range}
use Rattle.matching.specs.Extents as extents
use Rattle.larusqem_reasons.specs.Cases.{Case, reason_cases}
use Rattle.larusqem_reasons.specs.Reasons.{extent_words, reason_words}

pub all_worded : map (λ (c : Case). c.0) reason_cases ≡ map (λ (c : Case). c.1) reason_cases
unfolding reason_cases extent_words reason_words range extents.computes
all_worded = refl
