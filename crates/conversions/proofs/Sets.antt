-- The sets of letters in the code: each is that of the rows' letters, or of those whose form passes.
-- Assumes nothing.
use Prim.Native.Nat.{ℕ, ◌<◌}
use mathlib.Core.Bool.{Bool}
use mathlib.Core.Path.{◌≡◌, refl}
use mathlib.Core.List.{map}
use Rattle.conversions.specs.Conversions.{Row, Composite, rows, composites, conversion_of, is_conversion, is_composite, is_name}
use Rattle.conversions.specs.Conversions.{is_number, computes}
use Rattle.conversions.specs.Pieces.{after_E, after_O}
use Rattle.conversions.specs.Private.{holds, SetOf}
use Rattle.conversions.specs.declared.following.TheConstants.{CONVERSIONS, NUMBERS, NAMES, COMPOSITES, AFTER_E, AFTER_O}
use Rattle.conversions.proofs.Letters.{set_of, is_among, is_passed}

pub conversions_set : (b : ℕ) → holds CONVERSIONS b ≡ is_conversion b
unfolding is_conversion
conversions_set b = is_among (map (λ (r : Row). r.letter) rows) CONVERSIONS b refl (unfold holds computes in tt) (unfold computes in tt)

pub composites_set : (b : ℕ) → holds COMPOSITES b ≡ is_composite b
unfolding is_composite
composites_set b =
    is_among (map (λ (x : Composite). x.letter) composites) COMPOSITES b refl (unfold holds computes in tt) (unfold computes in tt)

pub after_E_set : SetOf AFTER_E after_E
after_E_set = set_of AFTER_E after_E (unfold holds after_E computes in tt) (unfold after_E computes in tt)

pub after_O_set : SetOf AFTER_O after_O
after_O_set = set_of AFTER_O after_O (unfold holds after_O computes in tt) (unfold after_O computes in tt)

abbrev named : ℕ → Bool
named b = is_name (conversion_of b).form

abbrev numbered : ℕ → Bool
numbered b = is_number (conversion_of b).form

pub names_set : (b : ℕ) → b < 256 → holds NAMES b ≡ is_name (conversion_of b).form
names_set b h = is_passed named NAMES b refl h (unfold holds computes in tt)

pub numbers_set : (b : ℕ) → b < 256 → holds NUMBERS b ≡ is_number (conversion_of b).form
numbers_set b h = is_passed numbered NUMBERS b refl h (unfold holds computes in tt)

-- for a function that asks such a set
pub ruleset sets = (conversions_set, composites_set, names_set, numbers_set)
