-- Where a kind was first said is where the first fact of its kind stands.
-- Assumes nothing.
use Prim.Native.Nat.{ℕ, ◌≤◌}
use mathlib.Core.Bool.{Bool, true, false, cond}
use mathlib.Core.List.{List, [], ◌∷◌}
use mathlib.Core.Logic.{⊎_elim}
use mathlib.Core.Path.{◌≡◌, refl, sym, ◌∙◌}
use borrow.Author.Tests.{eqb-true, eqb-false}
use lib.Dec.{eqb}
use lib.ListN.{length}
use Rattle.kinds.specs.Kinds.{zone_offset}
use Rattle.matching.specs.Elements.{read_element}
use Rattle.matching.specs.Extents.{extent, said_at, first_said}
use Rattle.matching.specs.declared.extents.Extent.{Extent}
use Rattle.matching.proofs.Sound.{Finds, Sound, sound}
use Rattle.demands.specs.Facts.{Fact, saying, facts_from, Says}
use Rattle.demands.specs.Reasons.{FirstOf, here, later, Spelled}
use Rattle.demands.proofs.Spelled.{Words, element_words}
use Rattle.std.specs.Prelude.{Err, Ok, Result}
use Rattle.matching.specs.declared.Refused.{Refused}
use Rattle.matching.specs.declared.elements.Item.TheVariants.{Fact as Reads, Skip}
use Rattle.matching.specs.declared.elements.Item.{Item}

module _ (k : ℕ) (s : List ℕ) (named : k ≡ zone_offset → ⊥) where
  -- the first of some facts that is of kind k, and where it stands
  pub record Stands (xs : List Fact) (x : Extent) : Type 0 where
    pub fact : Fact
    pub first : FirstOf k xs fact
    pub spelled : Spelled s fact
    pub at : x ≡ extent fact.from fact.next

  -- by the item of the first element, where the others do
  module _ (es : List ℕ) (n : ℕ)
      (rest : (p : ℕ) → p ≤ length s → Says (facts_from es s p) k n → Stands (facts_from es s p) (first_said k es s p)) where
    stands_by : (i : Result Item Refused) → Sound s i → (p : ℕ) → Words s p i → Says (saying (λ next. facts_from es s next) i) k n
        → Stands (saying (λ next. facts_from es s next) i) (said_at k (λ next. first_said k es s next) i)
    unfolding saying said_at Says Finds Words
    stands_by (Ok (Skip next)) h p w x = rest next h x
    stands_by (Ok (Reads j m f from next)) h p w x = go (eqb j k) refl
      where
        own : Fact
        own = record { kind = j; number = m; form = f; from = from; next = next }

        go : (b : Bool) → eqb j k ≡ b → Stands (own ∷ facts_from es s next) (cond b (extent from next) (first_said k es s next))
        go true e =
            record {
              fact = own;
              first = here (eqb-true j k e);
              spelled = record { some = h.1; within = h.2; bytes = w.1 (λ z. named (sym (eqb-true j k e) ∙ z)) };
              at = refl;
            }
        go false e =
            let away = eqb-false j k e in
            let r = rest next h.2 (⊎_elim (λ z. absurd (away z.0)) (λ z. z) x) in
            record { fact = r.fact; first = later away r.first; spelled = r.spelled; at = r.at }
    stands_by (Err why) h p w x = absurd x

  pub stands : (es : List ℕ) (p : ℕ) → p ≤ length s → (n : ℕ) → Says (facts_from es s p) k n
      → Stands (facts_from es s p) (first_said k es s p)
  unfolding facts_from first_said Says
  stands [] p h n x = absurd x
  stands (e ∷ es) p h n x =
      stands_by es n (λ q l y. stands es q l n y) (read_element e s p) (sound s p h e) p (element_words s e p) x
