-- Where the words of each kind stand, two words for each, one kind at a time over plain variables.
-- Assumes nothing.
use Prim.Native.Nat.{ℕ, suc, ◌+◌, ◌-◌, ◌*◌, ◌≤◌, ◌<◌}
use mathlib.Core.List.{List}
use mathlib.Core.Path.{◌≡◌}
use native.Mathlib.Numerals.{add-one}
use native.Mathlib.Omega.{arith}
use lib.ListN.{get_or, set}
use lib.Seq.{sets}
use Rattle.laws.specs.Lists.{range}
use Rattle.matching.specs.Extents.{nowhere}
use Rattle.matching.specs.declared.extents.Extent.{Extent}
use Rattle.larusqem_reasons.specs.Reasons.{told, extent_words}

module _ (xs : List Extent) (ws : List ℕ) (k : ℕ) where
  pub tell_more : k < told
      → sets (set (set ws (2 * k + 1) (get_or xs k nowhere).from) (2 * k + 2) (get_or xs k nowhere).next) (2 * (k + 1) + 1)
      (extent_words xs (range (k + 1) (told - (k + 1))))
      ≡ sets ws (2 * k + 1) (extent_words xs (range k (told - k)))
  unfolding range extent_words
  tell_more h =
      let more : told - k ≡ suc (told - suc k) = omega arith in
      let second : 2 * k + 2 ≡ suc (2 * k + 1) = omega arith in
      let third : 2 * (k + 1) + 1 ≡ suc (suc (2 * k + 1)) = omega arith in
      rw (more, third, second, add-one k)

  pub tell_done : told ≤ k → sets ws (2 * k + 1) (extent_words xs (range k (told - k))) ≡ ws
  unfolding range extent_words
  tell_done h =
      let none : told - k ≡ 0 = omega arith in
      rw none
