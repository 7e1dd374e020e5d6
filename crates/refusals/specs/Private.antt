-- What the functions of this crate hand each other.
use Rattle.std.specs.Prelude.{ℕ, ◌≤◌, List, length, get_or}
use Rattle.matching.specs.Extents.{nowhere}
use Rattle.matching.specs.declared.extents.Extent.{Extent}

-- words stand within a text
abbrev pub AllInside : List Extent → List ℕ → Type 0
AllInside xs s = (k : ℕ) → (get_or xs k nowhere).next ≤ length s
