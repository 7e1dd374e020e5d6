-- Whether words are packings in ascending order, one word after another: what is left decides.
-- Assumes nothing.
use Prim.Native.Nat.{ℕ, suc, ◌+◌, ◌≤◌, ◌<◌}
use mathlib.Core.Bool.{Bool, true, false, ◌&&◌}
use mathlib.Core.List.{List, ◌∷◌}
use mathlib.Core.Path.{◌≡◌, refl, sym, ◌∙◌}
use native.Mathlib.Numerals.{add-one}
use borrow.Author.Tests.{le-leb, lt-leb}
use lib.ListN.{length, get_or, drop, drop_of_length-le}
use lib.Seq.{drop-cons}
use Rattle.laws.specs.Lists.{every}
use Rattle.sheets.specs.Sheets.{is_packing}
use Rattle.sheet_list.specs.Ascending.{ascending_from}

-- both tests of some words, from a lowest one on
unfoldable pub tested : ℕ → List ℕ → Bool
tested low s = every is_packing s && ascending_from low s

and-false : (a : Bool) → (a && false) ≡ false
and-false true = refl
and-false false = refl

module _ (low x : ℕ) (s : List ℕ) where
  not-ascending : x < low → tested low (x ∷ s) ≡ false
  unfolding tested ascending_from
  not-ascending h = rw (lt-leb low x h) (and-false (every is_packing (x ∷ s)))

  no-packing : is_packing x ≡ false → tested low (x ∷ s) ≡ false
  unfolding tested every
  no-packing e = rw e

  one_more : low ≤ x → is_packing x ≡ true → tested low (x ∷ s) ≡ tested x s
  unfolding tested every ascending_from
  one_more h e = rw (e, le-leb low x h)

module _ (s : List ℕ) where
  abbrev pub Listing : ℕ → ℕ → Type 0
  Listing low i = tested low (drop i s) ≡ (every is_packing s && ascending_from 0 s)

  pub listing_start : Listing 0 0
  unfolding tested
  listing_start = refl

  pub listing_end : (low i : ℕ) → length s ≤ i → Listing low i → true ≡ (every is_packing s && ascending_from 0 s)
  unfolding tested every ascending_from
  listing_end low i h e = rw (drop_of_length-le s {i = i} h) at e

  module _ (low i : ℕ) (h : i < length s) (e : Listing low i) where
    pub listing_falls : get_or s i 0 < low → false ≡ (every is_packing s && ascending_from 0 s)
    listing_falls l = sym (not-ascending low (get_or s i 0) (drop (suc i) s) l) ∙ (rw (drop-cons s i 0 h) at e)

    pub listing_breaks : is_packing (get_or s i 0) ≡ false → false ≡ (every is_packing s && ascending_from 0 s)
    listing_breaks l = sym (no-packing low (get_or s i 0) (drop (suc i) s) l) ∙ (rw (drop-cons s i 0 h) at e)

    pub listing_on : low ≤ get_or s i 0 → is_packing (get_or s i 0) ≡ true → Listing (get_or s i 0) (i + 1)
    listing_on l p = rw add-one (sym (one_more low (get_or s i 0) (drop (suc i) s) l p) ∙ (rw (drop-cons s i 0 h) at e))
