-- When a text goes on with some letters, and with some of them.
use Prim.Native.Nat.{ℕ, zero, suc, ◌≤◌, ◌<◌, zero-le, suc-le-suc}
use mathlib.Core.Path.{◌≡◌, refl, sym, ap, ◌∙◌}
use mathlib.Core.Bool.{Bool, true, false, cond, false≢true}
use mathlib.Core.List.{List, [], ◌∷◌, map}
use native.Mathlib.Omega.{arith}
use borrow.Author.Tests.{eqb-true, eqb-false, eq-eqb, ne_eqb}
use lib.Dec.{eqb}
use lib.ListN.{length, take, drop}
use Rattle.std.specs.Char.{to_ascii_lowercase}
use Rattle.names.specs.Case.{fold}
use Rattle.names.proofs.Cased.{lowered}
use Rattle.names.specs.Names.{goes_on}
use Rattle.names.specs.Distinct.{apart}

pub fails : (a : Bool) → (a ≡ true → ⊥) → a ≡ false
fails true h = absurd (h refl)
fails false h = refl

-- one letter and the rest
both : (t x : Bool) → cond t x false ≡ true → (t ≡ true) × (x ≡ true)
both true x e = (refl, e)
both false x e = absurd (false≢true e)

-- not a longer text than there is
pub goes_length : (x s : List ℕ) → goes_on x s ≡ true → length x ≤ length s
unfolding goes_on
goes_length [] s g = zero-le
goes_length (a ∷ x) [] g = absurd (false≢true g)
goes_length (a ∷ x) (b ∷ s) g = suc-le-suc (goes_length x s (both (eqb (fold a) (fold b)) (goes_on x s) g).1)

pub too_short : (x s : List ℕ) → length s < length x → false ≡ goes_on x s
too_short x s h = sym (fails (goes_on x s) (λ g. absurd (omega (arith, goes_length x s g))))

-- a text goes on with letters exactly if as many of its own have the same small letters
small_same : (x s : List ℕ) → goes_on x s ≡ true → map to_ascii_lowercase (take (length x) s) ≡ map to_ascii_lowercase x
unfolding goes_on
small_same [] s g = refl
small_same (a ∷ x) [] g = absurd (false≢true g)
small_same (a ∷ x) (b ∷ s) g =
    let p = both (eqb (fold a) (fold b)) (goes_on x s) g in
    let e : to_ascii_lowercase b ≡ to_ascii_lowercase a = lowered b ∙ sym (eqb-true (fold a) (fold b) p.0) ∙ sym (lowered a) in
    let r = small_same x s p.1 in
    cc

same_small : (x s : List ℕ) → length x ≤ length s → map to_ascii_lowercase (take (length x) s) ≡ map to_ascii_lowercase x
    → goes_on x s ≡ true
unfolding goes_on
same_small [] s h e = refl
same_small (a ∷ x) [] h e = absurd (omega arith)
same_small (a ∷ x) (b ∷ s) h e =
    let p : to_ascii_lowercase b ≡ to_ascii_lowercase a = cc in
    let q : map to_ascii_lowercase (take (length x) s) ≡ map to_ascii_lowercase x = cc in
    rw (eq-eqb (fold a) (fold b) (sym (lowered a) ∙ sym p ∙ lowered b)) (same_small x s (omega arith) q)

pub by_small : (x s : List ℕ) {t : Bool} → length x ≤ length s
    → (t ≡ true → map to_ascii_lowercase (take (length x) s) ≡ map to_ascii_lowercase x)
    → (map to_ascii_lowercase (take (length x) s) ≡ map to_ascii_lowercase x → t ≡ true) → t ≡ goes_on x s
by_small x s {t} h f g = go t (goes_on x s) refl (λ e. same_small x s h (f e)) (λ e. g (small_same x s e))
  where
    go : (t u : Bool) → goes_on x s ≡ u → (t ≡ true → goes_on x s ≡ true) → (goes_on x s ≡ true → t ≡ true) → t ≡ goes_on x s
    go true u e f g = sym (f refl)
    go false true e f g = absurd (false≢true (g e))
    go false false e f g = sym e

-- a text that goes on with letters goes on with those that these go on with
pub goes_trans : (y x s : List ℕ) → goes_on y x ≡ true → goes_on x s ≡ true → goes_on y s ≡ true
unfolding goes_on
goes_trans [] x s h g = refl
goes_trans (c ∷ y) [] s h g = absurd (false≢true h)
goes_trans (c ∷ y) (a ∷ x) [] h g = absurd (false≢true g)
goes_trans (c ∷ y) (a ∷ x) (b ∷ s) h g =
    let p = both (eqb (fold c) (fold a)) (goes_on y x) h in
    let q = both (eqb (fold a) (fold b)) (goes_on x s) g in
    rw (eq-eqb (fold c) (fold b) (eqb-true (fold c) (fold a) p.0 ∙ eqb-true (fold a) (fold b) q.0))
    (goes_trans y x s p.1 q.1)

-- after the first letters, the others
pub parted : (k : ℕ) (x s : List ℕ) → goes_on (take k x) s ≡ true → goes_on x s ≡ goes_on (drop k x) (drop k s)
unfolding goes_on
parted zero x s g = refl
parted (suc k) [] s g = refl
parted (suc k) (a ∷ x) [] g = absurd (false≢true g)
parted (suc k) (a ∷ x) (b ∷ s) g =
    let p = both (eqb (fold a) (fold b)) (goes_on (take k x) s) g in
    rw p.0 (parted k x s p.1)

-- a text that goes on with the first letters alone goes on with all of these
pub shorter : (k : ℕ) (x s : List ℕ) → goes_on (take k x) s ≡ true → goes_on x s ≡ false → length (take k x) ≡ k
unfolding goes_on
shorter zero x s g n = refl
shorter (suc k) [] s g n = absurd (false≢true (sym n))
shorter (suc k) (a ∷ x) [] g n = absurd (false≢true g)
shorter (suc k) (a ∷ x) (b ∷ s) g n =
    let p = both (eqb (fold a) (fold b)) (goes_on (take k x) s) g in
    ap suc (shorter k x s p.1 (rw p.0 at n))

-- one letter of two names and of a text: t says that the names have the same letter, u that the text has the first name's,
-- w that it has the second's
letter : (t u w : Bool) {x y z : Bool} → (u ≡ true → t ≡ false → w ≡ false) → (x ≡ true → z ≡ true → y ≡ false)
    → cond t x true ≡ true → cond u z false ≡ true → cond w y false ≡ false
letter t false w h step e g = absurd (false≢true g)
letter t true false h step e g = refl
letter true true true h step e g = step e g
letter false true true h step e g = absurd (false≢true (sym (h refl refl)))

-- no text goes on with both of two names that are apart
pub never_both : (x y s : List ℕ) → apart x y ≡ true → goes_on x s ≡ true → goes_on y s ≡ false
unfolding apart goes_on
never_both [] y s e g = absurd (false≢true e)
never_both (a ∷ x) [] s e g = absurd (false≢true e)
never_both (a ∷ x) (b ∷ y) [] e g = refl
never_both (a ∷ x) (b ∷ y) (c ∷ s) e g =
    letter (eqb (fold a) (fold b)) (eqb (fold a) (fold c)) (eqb (fold b) (fold c))
    (λ u t. ne_eqb (fold b) (fold c) (λ q. eqb-false (fold a) (fold b) t (eqb-true (fold a) (fold c) u ∙ sym q)))
    (never_both x y s)
    e
    g
