-- The order of a table of forms, and that they are apart. The laws are in proofs/Forms.antt.
use Rattle.std.specs.Prelude.{ℕ, Bool, true, false, cond, ◌&&◌, List, [], ◌∷◌, eqb}
use Rattle.laws.specs.Lists.{every}
use Rattle.names.specs.Case.{fold}
use Rattle.names.specs.Names.{Form, goes_on}

-- two names differ, compared without case, at a place that both have: no text goes on with both
unfoldable pub apart : List ℕ → List ℕ → Bool
apart [] y = false
apart (a ∷ x) [] = false
apart (a ∷ x) (b ∷ y) = let more = apart x y in cond (eqb (fold a) (fold b)) more true

-- a form y may stand after x: as the beginning of x where both are of one name, so that it is not the longer one; else they are apart
unfoldable pub after : Form → Form → Bool
after x y =
    cond (eqb x.index y.index) (goes_on y.letters x.letters) (apart x.letters y.letters)

-- so may every form of a table after every one before it
unfoldable pub ranked : List Form → Bool
ranked [] = true
ranked (x ∷ xs) = every (after x) xs && ranked xs
