-- The words of the kinds that are left, filled in from the first kind to the last, over plain variables.
-- Assumes nothing.
use Prim.Native.Nat.{ℕ, suc, ◌+◌, ◌-◌, ◌≤◌, ◌<◌}
use mathlib.Core.List.{List, map}
use mathlib.Core.Path.{◌≡◌, refl}
use native.Mathlib.Numerals.{add-one}
use native.Mathlib.Omega.{arith}
use borrow.Author.Tests.{ne_eqb}
use lib.ListN.{get_or, set, replicate, length-replicate}
use lib.Seq.{sets, set-get_or}
use Rattle.std.specs.Prelude.{◌≢◌}
use Rattle.std.proofs.lemmas.List.{get_or-set_other, get_or-replicate, get_or_past}
use Rattle.agreement.specs.Agreement.{said}
use Rattle.agreement.specs.declared.Facts.{Facts}
use Rattle.conversions.specs.Conversions.{among}
use Rattle.kinds.specs.Kinds as kinds
use Rattle.laws.specs.Lists.{range}
use Rattle.matching.specs.Extents.{nowhere, first_said}
use Rattle.matching.specs.declared.extents.Extent.{Extent}
use Rattle.reasons.specs.Private.{first_kind, last_kind, word_in, words_in}
use Rattle.reasons.specs.Quarrels.{kinds_of}
use Rattle.reasons.specs.declared.About.{About}
use Rattle.reasons.specs.declared.About.TheVariants.{Day, Hour}
use Rattle.reasons.proofs.Ranges.{last_few, among_these}

-- the words of all kinds are those of the kinds that bear on what is judged, set one by one
words_of : (a : About) (left : Facts) (es s : List ℕ)
    → sets (replicate kinds.kinds nowhere) (first_kind a)
    (map (word_in a left es s) (range (first_kind a) (last_kind a + 1 - first_kind a)))
    ≡ words_in a left es s
unfolding first_kind last_kind words_in word_in among kinds_of range kinds.computes
words_of Day left es s = refl
words_of Hour left es s = refl

none_stands : (n j : ℕ) → get_or (replicate n nowhere) j nowhere ≡ nowhere
none_stands n j = grind (arith, get_or-replicate {A = Extent}, get_or_past {X = Extent}, length-replicate {A = Extent})

module _ (a : About) (left : Facts) (es s : List ℕ) where
  -- words are filled in below k, and nothing stands from k on
  pub record Filled (l : List Extent) (k : ℕ) : Type 0 where
    pub words : sets l k (map (word_in a left es s) (range k (last_kind a + 1 - k))) ≡ words_in a left es s
    pub rest : (j : ℕ) → k ≤ j → get_or l j nowhere ≡ nowhere

  pub filled_none : Filled (replicate kinds.kinds nowhere) (first_kind a)
  filled_none = record { words = words_of a left es s; rest = λ j h. none_stands kinds.kinds j }

  module _ {l : List Extent} {k : ℕ} (f : Filled l k) where
    pub filled_all : last_kind a < k → l ≡ words_in a left es s
    unfolding range
    filled_all h =
        let none : last_kind a + 1 - k ≡ 0 = omega arith in
        rw none at f.words

    module _ (h : first_kind a ≤ k) (m : k ≤ last_kind a) where
      -- what stands at k is the word of k
      one-more : {x : Extent} → x ≡ word_in a left es s k → Filled (set l k x) (k + 1)
      unfolding range
      one-more {x} e =
          let more : last_kind a + 1 - k ≡ suc (last_kind a + 1 - suc k) = omega arith in record {
            words = rw (add-one k, e) (rw more at f.words);
            rest = λ j n.
                let other : j ≢ k = omega arith in
                rw (get_or-set_other l k j x nowhere other) (f.rest j (omega arith));
          }

      pub filled_said : (said left k ≡ 0 → ⊥) → {x : Extent} → x ≡ first_said k es s 0 → Filled (set l k x) (k + 1)
      unfolding word_in
      filled_said d e = one-more (rw (among_these a k (omega (arith, last_few a)) h m, ne_eqb _ 0 d, e))

      pub filled_unsaid : said left k ≡ 0 → Filled l (k + 1)
      unfolding word_in
      filled_unsaid d =
          let same : set l k nowhere ≡ l = rw (f.rest k (omega arith)) at (set-get_or l k nowhere) in
          rw same at (one-more {x = nowhere} (rw (among_these a k (omega (arith, last_few a)) h m, d)))
