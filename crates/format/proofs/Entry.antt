-- Whether an entry is an element, by its parts.
-- Assumes nothing.
use Prim.Native.Nat.{ℕ, zero, suc, ◌/◌, ◌%◌, ◌≤◌, ◌<◌}
use mathlib.Core.Bool.{Bool, true, false, cond, ◌&&◌, and-eq-true_iff, and-false}
use mathlib.Core.List.{List, [], ◌∷◌}
use mathlib.Core.Path.{◌≡◌, refl, sym, ap}
use native.Mathlib.Decide.{dec_le}
use native.Mathlib.Nat.{lt_of_not-le}
use native.Mathlib.Omega.{arith}
use borrow.Author.Tests.{lt-ltb, le-ltb, le-leb, ltb-true}
use lib.Dec.{leb}
use lib.ListN.{length}
use Rattle.laws.proofs.Cases.{either}
use Rattle.conversions.specs.Conversions.{among, is_conversion}
use Rattle.conversions.specs.Pieces.{is_unstyled}
use Rattle.format.specs.Opening.{letter_of, after_sign, is_plain}
use Rattle.conversions.specs.Pieces.{takes_style, is_read}
use Rattle.format.specs.Opening.{is_taken, is_element, elements_in}
use Rattle.format.specs.Private.{takes_letter}
use Rattle.format.specs.declared.opening.Side.{Side}
use Rattle.format.specs.declared.opening.Side.TheVariants.{Writer, Reader}

-- ---- a byte, and what has neither flag nor width

byte_is : (e : ℕ) (side : Side) → e < 256 → true ≡ is_element side e
unfolding is_element
byte_is e side h = rw (lt-ltb e 256 h)

-- without flag and width: what the side takes
plain_taken : (side : Side) (e : ℕ) → e < 262144 → takes_letter side (letter_of e) ≡ is_taken side e
unfolding is_taken takes_letter among takes_style is_unstyled
plain_taken Writer e h =
    let f : e / 33554432 ≡ 0 = omega arith in
    let w : e / 262144 % 128 ≡ 0 = omega arith in
    rw (f, w)
plain_taken Reader e h = rw (lt-ltb e 262144 h)

pub plain_is : (e : ℕ) (side : Side) → 256 ≤ e → e < 262144 → {t : Bool}
    → t ≡ (is_conversion (letter_of e) && takes_letter side (letter_of e)) → t ≡ is_element side e
unfolding is_element
plain_is e side h l c = rw (le-ltb e 256 h, ← plain_taken side e l, le-leb 1 (after_sign e) (omega arith)) c

-- with one, none to the reader
pub not_read : (e : ℕ) → 262144 ≤ e → is_element Reader e ≡ false
unfolding is_element is_taken
not_read e h = simp (le-ltb e 256 (omega arith), le-ltb e 262144 h, and-false)

-- what the reader takes, the writer takes
pub reader_writer : (e : ℕ) → is_element Reader e ≡ true → is_element Writer e ≡ true
unfolding is_element is_taken
reader_writer e p =
    elim (dec_le 256 e) [
      | yes h ↦
          let u = (and-eq-true_iff (is_conversion (letter_of e)) (leb 1 (after_sign e) && (is_plain e && is_read (letter_of e)))).0
          (rw (le-ltb e 256 h) at p) in
          let v = ((and-eq-true_iff (leb 1 (after_sign e)) (is_plain e && is_read (letter_of e))).0 u.1).1 in
          let l = ltb-true e 262144 ((and-eq-true_iff (is_plain e) (is_read (letter_of e))).0 v).0 in
          sym (plain_is e Writer h l (unfold takes_letter in rw u.0))
      | no h ↦ sym (byte_is e Writer (lt_of_not-le h))
    ]

pub all_plain : (n : ℕ) (es : List ℕ) → elements_in Reader n es ≡ length es → elements_in Writer n es ≡ length es
unfolding elements_in
all_plain zero es e = e
all_plain (suc n) [] e = refl
all_plain (suc n) (x ∷ es) q =
    either (λ k. k ≡ suc (length es) → cond (is_element Writer x) (suc (elements_in Writer n es)) 0 ≡ suc (length es)) (is_element Reader x)
    (λ t e. rw (reader_writer x t) (ap suc (all_plain n es (omega arith))))
    (λ t e. absurd (omega arith)) q
