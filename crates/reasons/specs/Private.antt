-- What the functions of this crate hand each other.
use Rattle.std.specs.Prelude.{ℕ, cond, List, map}
use Rattle.agreement.specs.declared.Facts.{Facts}
use Rattle.kinds.specs.Kinds as kinds
use Rattle.laws.specs.Lists.{range}
use Rattle.matching.specs.Extents.{nowhere, first_said}
use Rattle.matching.specs.declared.extents.Extent.{Extent}
use Rattle.reasons.specs.Quarrels.{has_kind}
use Rattle.reasons.specs.declared.About.{About}
use Rattle.reasons.specs.declared.About.TheVariants.{Day, Hour}

-- the first and the last of the kinds that bear on the day, and on the hour
unfoldable pub first_kind : About → ℕ
first_kind Day = kinds.year
first_kind Hour = kinds.hour

unfoldable pub last_kind : About → ℕ
last_kind Day = kinds.iso_week
last_kind Hour = kinds.half_of_day

-- where a kind was first said, if it is among the facts that are left; and all of them
unfoldable pub word_in : About → Facts → List ℕ → List ℕ → ℕ → Extent
word_in a left es s k = cond (has_kind a left k) (first_said k es s 0) nowhere

unfoldable pub words_in : About → Facts → List ℕ → List ℕ → List Extent
words_in a left es s = map (word_in a left es s) (range 0 kinds.kinds)
