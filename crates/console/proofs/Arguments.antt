-- What an argument asks for, by the tests of the code.
-- Assumes nothing.
use Rattle.std.proofs.Common.{◌≡◌, ℕ, ◌<◌, Bool, true, false, List, [], ◌∷◌, arith, length, slice_index_or, refl, ap, ◌∙◌, nat_eq}
use mathlib.Core.Bool.{cond, ◌&&◌}
use borrow.Author.Tests.{eq-eqb, ne_eqb}
use lib.Pointwise.{pointwise}
use Rattle.laws.specs.Bytes.{bytes}
use Rattle.console.specs.Arguments.{same_bytes, names_file, asked_by}
use Rattle.console.specs.declared.Asked.TheVariants.{File, Help, Version, Unknown}

-- slices' == is the test that two texts are the same, byte by byte
tested : (s t : List ℕ) → pointwise nat_eq s t ≡ same_bytes s t
unfolding same_bytes
tested [] [] = refl
tested [] (b ∷ t) = refl
tested (a ∷ s) [] = refl
tested (a ∷ s) (b ∷ t) = ap (λ x. nat_eq a b && x) (tested s t)

pub test : {h : Bool} (s t u : List ℕ) → h ≡ pointwise nat_eq s t → t ≡ u → h ≡ same_bytes s u
test s t u e same = e ∙ ap (pointwise nat_eq s) same ∙ tested s u

-- ---- a file's name

none : (s : List ℕ) → length s ≡ 0 → names_file s ≡ false
unfolding names_file
none [] e = refl
none (b ∷ s) e = absurd (omega (arith, e))

dash : (s : List ℕ) → 0 < length s → slice_index_or s 0 0 ≡ 45 → names_file s ≡ false
unfolding names_file
dash [] i e = absurd (omega (arith, i))
dash (b ∷ s) i e = rw (eq-eqb b 45 e)

name : (s : List ℕ) → 0 < length s → (slice_index_or s 0 0 ≡ 45 → ⊥) → names_file s ≡ true
unfolding names_file
name [] i e = absurd (omega (arith, i))
name (b ∷ s) i e = rw (ne_eqb b 45 e)

-- ---- by each test
module _ (s : List ℕ) {h : Bool} (a : h ≡ same_bytes s (bytes "--help")) where
  pub by_help : h ≡ true → Help ≡ asked_by s
  unfolding asked_by
  by_help e = rw (← a, e)

  module _ (l : h ≡ false) {v : Bool} (b : v ≡ same_bytes s (bytes "--version")) where
    pub by_version : v ≡ true → Version ≡ asked_by s
    unfolding asked_by
    by_version e = rw (← a, l, ← b, e)

    module _ (m : v ≡ false) where
      by_name : (x : Bool) → names_file s ≡ x → cond x File Unknown ≡ asked_by s
      unfolding asked_by
      by_name x e = rw (← a, l, ← b, m, e)

      pub by_nothing : length s ≡ 0 → Unknown ≡ asked_by s
      by_nothing e = by_name false (none s e)

      pub by_dash : 0 < length s → slice_index_or s 0 0 ≡ 45 → Unknown ≡ asked_by s
      by_dash i e = by_name false (dash s i e)

      pub by_file : 0 < length s → (slice_index_or s 0 0 ≡ 45 → ⊥) → File ≡ asked_by s
      by_file i e = by_name true (name s i e)
