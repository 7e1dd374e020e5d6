-- The reason of a reading for C (RULES 10.3): 33 words. Word 0 is the part in which two days differ; words 2k + 1 and 2k + 2 are where the
-- words of kind k begin and end, for k from 0 to 15 (there is no kind 0). What the reason does not name is 0.
use Rattle.std.specs.Prelude.{ℕ, ◌<◌, ◌^◌, List, [], ◌∷◌, get_or}
use Rattle.laws.specs.Lists.{range}
use Rattle.matching.specs.Extents.{nowhere}
use Rattle.matching.specs.declared.extents.Extent.{Extent}
use Rattle.reasons.specs.declared.Explained.{Explained}
use Rattle.reasons.specs.declared.Part.{Part}
use Rattle.reasons.specs.declared.Part.TheVariants.{Year, Month, Day}
use Rattle.std.specs.Prelude.{None, Option, Some}
use Rattle.reasons.specs.declared.Reason.TheVariants.{Differ, Hours, Quarrel}
use Rattle.reasons.specs.declared.Reason.{Reason}

abbrev pub part_number : Part → ℕ
part_number Year = 1
part_number Month = 2
part_number Day = 3

-- 0 where no two days differ
abbrev pub differ_number : Option Reason → ℕ
differ_number None = 0
differ_number (Some (Quarrel a)) = 0
differ_number (Some (Differ p)) = part_number p
differ_number (Some (Hours a b)) = 0

-- how many kinds are told of
abbrev pub told : ℕ
told = 16

-- what they say fits 32 bits
abbrev pub AllFit : List Extent → Type 0
AllFit xs = (k : ℕ) → ((get_or xs k nowhere).from < 2 ^ 32) × ((get_or xs k nowhere).next < 2 ^ 32)

-- where the words of some kinds begin and end, two words for each kind
unfoldable pub extent_words : List Extent → List ℕ → List ℕ
extent_words xs [] = []
extent_words xs (k ∷ ks) = let x = get_or xs k nowhere in x.from ∷ x.next ∷ extent_words xs ks

unfoldable pub reason_words : Explained → List ℕ
reason_words x = differ_number x.reason ∷ extent_words x.words (range 0 told)
