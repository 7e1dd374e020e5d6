-- How the code compares names: what its private functions answer.
use Rattle.std.specs.Prelude.{ℕ, suc, Bool, cond, ◌&&◌, List, [], ◌∷◌, ◌++◌, map, eqb, get_or, take, replicate}
use Rattle.names.specs.Names.{Form, names_of, short, goes_on}
use Rattle.names.specs.declared.names.Middle.{Middle}
use Rattle.names.specs.declared.names.NameForm.TheVariants.{Middle as MiddleForm}
use Rattle.names.specs.declared.names.Names.{Names}

-- a name in a row of nine bytes, with blanks after it
unfoldable pub padded : List ℕ → List ℕ
padded n = take 9 (n ++ replicate 9 32)

-- a middle form of the code
unfoldable pub form_of : Middle → Form
form_of m = record { letters = m.letters.now; index = m.index; form = MiddleForm }

-- three bytes are the same
unfoldable pub same : List ℕ → List ℕ → Bool
same x y = eqb (get_or x 0 0) (get_or y 0 0) && (eqb (get_or x 1 0) (get_or y 1 0) && eqb (get_or x 2 0) (get_or y 2 0))

-- the place of the first row that has three bytes; how many rows there are if none has
unfoldable pub place_of : List (List ℕ) → List ℕ → ℕ
place_of [] k = 0
place_of (r ∷ rs) k = let more = suc (place_of rs k) in cond (same r k) 0 more

-- the place of the first of some names that a text goes on with; how many there are if it goes on with none
unfoldable pub place_in : List (List ℕ) → List ℕ → ℕ
place_in [] s = 0
place_in (n ∷ ns) s = let more = suc (place_in ns s) in cond (goes_on n s) 0 more

-- the place of the name whose short form a text goes on with
unfoldable pub short_place : Names → List ℕ → ℕ
short_place t s = place_in (map short (names_of t)) s
