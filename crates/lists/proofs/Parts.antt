-- The parts of a report make it, over plain variables.
-- Assumes nothing.
use Prim.Native.Nat.{ℕ, ◌≤◌}
use mathlib.Core.List.{List, [], ◌∷◌, ◌++◌}
use mathlib.Core.Path.{◌≡◌, sym, ap, ◌∙◌}
use lib.ListN.{length, take}
use Rattle.lists.specs.Parts.{Left, Made, ToEnd, bytes_of, InParts}
use Rattle.std.specs.Prelude.{Result, ℕ}
use Rattle.format.specs.declared.opening.Unopened.{Unopened}

-- nothing is left at the input's end
module _ (report : List ℕ → List ℕ) (left : Left)
    (at_end : (o : Result ℕ Unopened) (es s : List ℕ) (from : ℕ) → length s ≤ from → left o es s from ≡ []) where
  -- from a place on, they make what is left there
  from-there : (o : Result ℕ Unopened) (es s : List ℕ) (from : ℕ) (ms : List Made) → ToEnd left o es s from ms → bytes_of ms
      ≡ left o es s from
  unfolding ToEnd bytes_of
  from-there o es s from [] h = sym (at_end o es s from h)
  from-there o es s from (m ∷ ms) (p, q) =
      ap (λ (x : List ℕ). take m.made.count m.after ++ x) (from-there o es s m.made.next ms q) ∙ sym p.puts.split

  pub in_parts : InParts report left
  in_parts s room es before after r ms p q =
      ap (λ (x : List ℕ). take r.count after ++ x) (from-there r.opened es s r.next ms q) ∙ sym p.puts.split
