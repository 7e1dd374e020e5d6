-- A format that was opened before, for the reader or for the writer, reads each text as the format itself does.
-- Assumes nothing.
use Prim.Native.Nat.{ℕ, ◌≤◌}
use mathlib.Core.Bool.{true}
use mathlib.Core.List.{List}
use mathlib.Core.Path.{◌≡◌, refl, sym, ◌∙◌}
use native.Mathlib.Omega.{arith}
use lib.ListN.{length}
use Rattle.laws.specs.Lists.{every}
use Rattle.format.specs.Opening.{longest, is_byte, opening}
use Rattle.format.specs.Opening.Ended.{Whole}
use Rattle.format.specs.declared.opening.Side.TheVariants.{Writer, Reader}
use Rattle.format.proofs.Elements.{all_elements}
use Rattle.format.proofs.Sides.{Sides, together, apart, sides, apart_longer, apart_counted, apart_place}
use Rattle.judge.specs.declared.Engine.{Engine}
use Rattle.strptime.specs.Answers.{reading_by, elements_reading_by}
use Rattle.strptime.proofs.Opens.{conversion_bad, format_read, entry_bad, entries_read}

-- an engine, and a format of bytes that is not too long
module _ (e : Engine) (f : List ℕ) (short : length f ≤ longest) (bytes : every is_byte f ≡ true) where
  pub read_by_elements : (opening Reader f).ended ≡ Whole → (s : List ℕ)
      → elements_reading_by e (opening Reader f).elements s ≡ reading_by e f s
  read_by_elements w s =
      let es = (opening Reader f).elements in
      sym (entries_read e es s (sym (all_elements Reader f short bytes)) refl) ∙ format_read e f s short w

  -- where the format has a flag, a width or %s, both refuse it by 3 at the first
  pub read_by_writers_elements : (opening Writer f).ended ≡ Whole → (s : List ℕ)
      → elements_reading_by e (opening Writer f).elements s ≡ reading_by e f s
  read_by_writers_elements w s = go (sides f)
    where
      go : Sides (length f) (opening Writer f) (opening Reader f)
          → elements_reading_by e (opening Writer f).elements s ≡ reading_by e f s
      go (together q) = rw q (read_by_elements (rw q at w) s)
      go (apart a) =
          let es = (opening Writer f).elements in
          let counted = sym (apart_counted f short bytes a) in
          let place = sym (apart_place f short bytes a) in
          sym (entry_bad e es s counted (λ q. omega (arith, apart_longer f short bytes a)) place) ∙ conversion_bad e f s short a.ended
