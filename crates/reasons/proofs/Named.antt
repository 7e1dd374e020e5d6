-- Which kinds are named by a quarrel, and where their words are.
-- Assumes nothing.
use Prim.Native.Nat.{ℕ, zero, suc, ◌+◌, ◌≤◌, ◌<◌}
use mathlib.Core.Bool.{cond}
use mathlib.Core.List.{List, map}
use mathlib.Core.Path.{◌≡◌, refl, ◌∙◌}
use native.Mathlib.Decide.{ℕ_discrete, dec_le}
use native.Mathlib.Nat.{lt_of_not-le, add-zero, add-suc, suc-add}
use native.Mathlib.Omega.{arith}
use borrow.Author.Tests.{eq-eqb, ne_eqb}
use lib.ListN.{length, get_or, get_or-eq_default}
use Rattle.agreement.specs.Agreement.{said}
use Rattle.kinds.specs.Kinds.{kinds}
use Rattle.laws.specs.Lists.{range}
use Rattle.matching.specs.Extents.{nowhere, first_said}
use Rattle.matching.specs.declared.extents.Extent.{Extent}
use Rattle.reasons.specs.Private.{first_kind, last_kind}
use Rattle.reasons.specs.Quarrels.{quarrelling, is_named}
use Rattle.reasons.specs.Reasons.{facts_in, quarrel_words, no_words}
use Rattle.reasons.specs.declared.About.{About}
use Rattle.reasons.proofs.Ranges.{last_few, among_before, among_after, among_these}

-- entries of an array that is filled by a function of the index
module _ {A : Type 0} (f : ℕ → A) (d : A) where
  row-entry : (n from k : ℕ) → k < n → get_or (map f (range from n)) k d ≡ f (from + k)
  unfolding range
  row-entry zero from k h = absurd (omega arith)
  row-entry (suc n) from zero h = rw add-zero
  row-entry (suc n) from (suc k) h = rw (add-suc, ← suc-add) (row-entry n (suc from) k (omega arith))

  row-length : (n from : ℕ) → length (map f (range from n)) ≡ n
  unfolding range
  row-length zero from = refl
  row-length (suc n) from = let e = row-length n (suc from) in omega arith

  pub entry : (n k : ℕ) → k < n → get_or (map f (range 0 n)) k d ≡ f k
  entry n k h = let e : 0 + k ≡ k = omega arith in rw e at (row-entry n 0 k h)

  pub past : (n k : ℕ) → n ≤ k → get_or (map f (range 0 n)) k d ≡ d
  past n k h = get_or-eq_default (map f (range 0 n)) d (omega (arith, row-length n 0))

-- without a quarrel no words stand anywhere
pub no_word : (k : ℕ) → get_or no_words k nowhere ≡ nowhere
unfolding no_words
no_word k =
    elim (dec_le kinds k) [
      | yes h ↦ past (λ (j : ℕ). nowhere) nowhere kinds k h
      | no h ↦ entry (λ (j : ℕ). nowhere) nowhere kinds k (lt_of_not-le h)
    ]

module _ (a : About) (es s : List ℕ) (k : ℕ) where
  abbrev pub word : Extent
  word = get_or (quarrel_words a es s) k nowhere

  -- a kind that bears on what is judged, and of which a fact is left
  abbrev pub Left : Type 0
  Left = (first_kind a ≤ k) × (k ≤ last_kind a) × (said (quarrelling a (facts_in es s)) k ≡ 0 → ⊥)

  word_is : k < kinds → word ≡ cond (is_named a (facts_in es s) k) (first_said k es s 0) nowhere
  unfolding quarrel_words
  word_is h = entry (λ j. cond (is_named a (facts_in es s) j) (first_said j es s 0) nowhere) nowhere kinds k h

  pub left_word : Left → word ≡ first_said k es s 0
  unfolding is_named
  left_word l =
      let h : k < kinds = omega (arith, l.1, last_few a) in
      word_is h ∙ rw (among_these a k h l.0 l.1, ne_eqb _ 0 l.2)

  pub named_left : (word ≡ nowhere → ⊥) → Left
  unfolding quarrel_words is_named
  named_left d =
      elim (dec_le kinds k) [
        | yes h ↦ absurd (d (past (λ j. cond (is_named a (facts_in es s) j) (first_said j es s 0) nowhere) nowhere kinds k h))
        | no h ↦
            inside (lt_of_not-le h) (dec_le (first_kind a) k) (dec_le k (last_kind a))
            (ℕ_discrete (said (quarrelling a (facts_in es s)) k) 0)
      ]
    where
      inside : k < kinds → Dec (first_kind a ≤ k) → Dec (k ≤ last_kind a) → Dec (said (quarrelling a (facts_in es s)) k ≡ 0) → Left
      inside h (no l) m z = absurd (d (word_is h ∙ rw (among_before a k h (lt_of_not-le l))))
      inside h (yes l) (no m) z = absurd (d (word_is h ∙ rw (among_after a k h l (lt_of_not-le m))))
      inside h (yes l) (yes m) (yes z) = absurd (d (word_is h ∙ rw (among_these a k h l m, eq-eqb _ 0 z)))
      inside h (yes l) (yes m) (no z) = (l, m, z)
