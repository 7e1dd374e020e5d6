-- What the private functions of the code ask and answer.
use Rattle.std.specs.Prelude.{ℕ, ◌+◌, ◌≤◌, ◌<◌, Bool, true, List, length}
use Rattle.conversions.specs.Pieces.{is_read}
use Rattle.format.specs.Opening.{Opening, longest, most_elements, sign_at, open_to, closed}
use Rattle.format.specs.declared.opening.Side.{Side}
use Rattle.format.specs.declared.opening.Side.TheVariants.{Writer, Reader}
use Rattle.std.specs.Prelude.{Option, Result}
use Rattle.format.specs.declared.opening.Unopened.{Unopened}

-- a letter is taken by a side without flag and width, if it is a conversion's
unfoldable pub takes_letter : Side → ℕ → Bool
takes_letter Writer c = true
takes_letter Reader c = is_read c

-- a format can be opened where n elements stand already: it is not too long, nor is the one that holds the composite's %, and the
-- elements can be counted
pub record CanOpen (d : Side) (depth : ℕ) (g : Option ℕ) (s : List ℕ) (n : ℕ) : Type 0 where
  pub short : length s ≤ longest
  pub sign : sign_at g 0 < longest
  pub few : n + length (open_to d depth g s).elements ≤ most_elements

-- the answer to an opening where n elements stand already
abbrev pub answered : ℕ → Opening → Result ℕ Unopened
answered n o = closed (n + length o.elements) o.ended
