-- Words that begin at an offset, over plain variables.
-- Assumes nothing.
use Prim.Native.Nat.{ℕ, ◌<◌}
use mathlib.Core.Bool.{true, and-eq-true_iff}
use mathlib.Core.List.{List}
use mathlib.Core.Path.{◌≡◌}
use borrow.Author.Tests.{ltb-true}
use lib.Dec.{eqb, ltb}
use lib.ListN.{get_or}
use Rattle.matching.specs.Extents.{nowhere}
use Rattle.matching.specs.declared.extents.Extent.{Extent}
use Rattle.refusals.specs.Words.{begins}

pub some_words : (xs : List Extent) (at k : ℕ) → begins xs at k ≡ true → (get_or xs k nowhere).from < (get_or xs k nowhere).next
unfolding begins
some_words xs at k e =
    let x = get_or xs k nowhere in
    ltb-true x.from x.next ((and-eq-true_iff (eqb x.from at) (ltb x.from x.next)).0 e).1
