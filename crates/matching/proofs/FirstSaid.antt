-- Looking for the first words of a kind, one element after the other, over plain variables.
-- Assumes nothing.
use Prim.Native.Nat.{ℕ, ◌+◌, ◌≤◌, ◌<◌}
use mathlib.Core.List.{List, [], ◌∷◌}
use mathlib.Core.Path.{◌≡◌, refl, sym, ◌∙◌}
use borrow.Author.Tests.{eq-eqb, ne_eqb}
use native.Mathlib.Numerals.{add-one}
use lib.Dec.{eqb}
use lib.ListN.{length, get_or, drop, drop_of_length-le}
use lib.Seq.{drop-cons}
use native.Mathlib.Omega.{arith}
use Rattle.laws.proofs.Cases.{picked}
use Rattle.matching.specs.Elements.{read_element}
use Rattle.matching.specs.Extents.{extent, nowhere, said_at, first_said}
use Rattle.matching.specs.declared.extents.Extent.{Extent}
use Rattle.matching.proofs.Sound.{Finds, Sound, sound}
use Rattle.std.specs.Prelude.{Err, Ok, Option, Result}
use Rattle.matching.specs.declared.Refused.{Refused}
use Rattle.matching.specs.declared.elements.Item.TheVariants.{Fact, Skip}
use Rattle.matching.specs.declared.elements.Item.{Item}
use Rattle.names.specs.declared.names.NameForm.{NameForm}

refused-nowhere : (k : ℕ) (on : ℕ → Extent) (m : Result Item Refused) → ((x : Item) → m ≡ Ok x → ⊥) → said_at k on m ≡ nowhere
unfolding said_at
refused-nowhere k on (Ok x) r = absurd (r x refl)
refused-nowhere k on (Err why) r = refl

-- ---- one turn of the loop
module _ (k : ℕ) (es s : List ℕ) (at i : ℕ) where
  pub said_nowhere : length es ≤ i → first_said k (drop i es) s at ≡ nowhere
  unfolding first_said
  said_nowhere h = rw (drop_of_length-le es h)

  module _ (h : i < length es) (w : at ≤ length s) {m : Result Item Refused} (g : m ≡ read_element (get_or es i 0) s at) where
    said-turn : said_at k (λ next. first_said k (drop (i + 1) es) s next) m ≡ first_said k (drop i es) s at
    unfolding first_said
    said-turn = rw (drop-cons es i 0 h, add-one, ← g)

    within : Sound s m
    within = rw g (sound s at w (get_or es i 0))

    -- the search goes on
    abbrev Goes : ℕ → Type 0
    Goes next = (next ≤ length s) × (first_said k (drop (i + 1) es) s next ≡ first_said k (drop i es) s at)

    pub said_skip : {next : ℕ} → m ≡ Ok (Skip next) → Goes next
    unfolding said_at Finds
    said_skip e = (rw e at within, rw e at said-turn)

    pub said_refused : ((x : Item) → m ≡ Ok x → ⊥) → nowhere ≡ first_said k (drop i es) s at
    said_refused r = sym (refused-nowhere k _ m r) ∙ said-turn

    module _ {j n from next : ℕ} {f : Option NameForm} (e : m ≡ Ok (Fact j n f from next)) where
      pub said_other : (j ≡ k → ⊥) → Goes next
      unfolding said_at Finds
      said_other d = ((rw e at within).2, rw (e, ne_eqb j k d) at said-turn)

      pub said_found : j ≡ k → extent from next ≡ first_said k (drop i es) s at
      unfolding said_at
      said_found d = rw (e, eq-eqb j k d) at said-turn

-- ---- the words stand within the text
abbrev pub Inside : List ℕ → Extent → Type 0
Inside s x = (x.from ≤ length s) × (x.next ≤ length s)

pub nowhere_inside : (s : List ℕ) → Inside s nowhere
unfolding nowhere
nowhere_inside s = (omega arith, omega arith)

module _ (k : ℕ) (s : List ℕ) where
  inside-by : (on : ℕ → Extent) → ((p : ℕ) → p ≤ length s → Inside s (on p)) → (i : Result Item Refused) → Sound s i
      → Inside s (said_at k on i)
  unfolding said_at Finds
  inside-by on rest (Ok (Skip next)) h = rest next h
  inside-by on rest (Ok (Fact j n f from next)) h =
      picked (Inside s) (eqb j k) (omega (arith, h.1, h.2), h.2) (rest next h.2)
  inside-by on rest (Err why) h = nowhere_inside s

  pub said_inside : (es : List ℕ) (at : ℕ) → at ≤ length s → Inside s (first_said k es s at)
  unfolding first_said
  said_inside [] at h = nowhere_inside s
  said_inside (e ∷ es) at h =
      inside-by (λ next. first_said k es s next) (λ p l. said_inside es p l) (read_element e s at) (sound s at h e)
