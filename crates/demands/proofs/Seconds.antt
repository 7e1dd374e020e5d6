-- Where 12 is told stands a %s: an element of a format that is %s has the offset of a % that is followed by s.
-- Assumes nothing.
use Prim.Native.Char.{code}
use Prim.Native.Nat.{ℕ, zero, suc, ◌+◌, ◌-◌, ◌≤◌, ◌<◌}
use mathlib.Core.Bool.{true, false, and-eq-true_iff}
use mathlib.Core.List.{List, [], ◌∷◌, ◌++◌}
use mathlib.Core.Path.{◌≡◌, refl, sym, ap, ◌∙◌}
use native.Mathlib.Decide.{dec_le}
use native.Mathlib.Nat.{lt_of_not-le}
use native.Mathlib.Omega.{arith}
use borrow.Author.Tests.{lt-ltb, le-ltb, ltb-true, eqb-true}
use lib.Dec.{eqb}
use lib.ListN.{length, take, drop, get_or}
use lib.Seq.{drop-drop}
use Rattle.laws.specs.Bytes.{bytes}
use Rattle.laws.specs.Lists.{every}
use Rattle.laws.proofs.Cases.{either, picked, clash}
use Rattle.conversions.specs.Conversions.{computes as rows-compute}
use Rattle.format.specs.Opening.{Ended, Whole, BadAt, Opening, opening, open_to, open_from, composite_to, longest, is_byte, letter_of}
use Rattle.format.specs.Opening.{after_sign}
use Rattle.conversions.specs.Pieces.{conversion, flag_run, width_run, style_from}
use Rattle.format.specs.Opening.{conversion_at}
use Rattle.conversions.specs.Pieces.{is_unstyled, takes_style, with_style, styled}
use Rattle.format.specs.Opening.{signed, piece_of, before, composed, acted, nothing, sign_at}
use Rattle.format.specs.Opening.{is_element}
use Rattle.conversions.specs.declared.following.Act.{Act}
use Rattle.conversions.specs.declared.following.Act.TheVariants.{Byte, Convert, Open, Refuse}
use Rattle.conversions.specs.declared.following.Piece.{Piece}
use Rattle.format.specs.declared.opening.Side.TheVariants.{Writer, Reader}
use Rattle.conversions.specs.declared.following.Style.{Style}
use Rattle.format.proofs.Elements.{composite_elements, read_letter}
use Rattle.format.proofs.Pieces.{Follows, follows}
use Rattle.conversions.proofs.Seconds.{conversion_s}
use Rattle.format.proofs.Sides.{composites_alike}
use Rattle.conversions.proofs.Styles.{flag_run_lem, width_run_lem}
use Rattle.text.specs.Digits.{decimal}
use Rattle.strftime.specs.Writing.{is_seconds, first_seconds, lacking}
use Rattle.strftime.proofs.Longest.{Lettered, piece_lettered}
use Rattle.std.specs.Prelude.{None, Option, Some, ℤ}

-- ---- what is converted as s

-- with a flag or a width it would not be taken
module _ (s : List ℕ) (x : Style) where
  abbrev flag : List ℕ
  flag = flag_run s

  abbrev width : List ℕ
  width = width_run (drop (length flag) s)

  abbrev rest : List ℕ
  rest = drop (length flag + length width) s

  alone : is_unstyled (style_from flag width) ≡ true → rest ≡ s
  unfolding is_unstyled style_from
  alone e =
      let u = (and-eq-true_iff (eqb (get_or flag 0 0) 0) (eqb (decimal 0 width) 0)).0 e in
      let n : length flag ≡ 0 = (flag_run_lem s).none (eqb-true (get_or flag 0 0) 0 u.0) in
      let m : length width ≡ 0 = (width_run_lem (drop (length flag) s)).none (eqb-true (decimal 0 width) 0 u.1) in
      rw (m, n)

  -- neither a name nor a number: nothing may stand before it
  bare-s : (y : Style) → takes_style y 115 ≡ true → is_unstyled y ≡ true
  unfolding takes_style rows-compute
  bare-s y =
      either (λ t. t ≡ true → is_unstyled y ≡ true) (is_unstyled y) (λ u _. u)
      (λ _.
      picked (λ t. t ≡ true → is_unstyled y ≡ true) (eqb y.flag 0) (λ q. clash (cc))
      (picked (λ t. t ≡ true → is_unstyled y ≡ true) (eqb y.flag 94) (λ q. clash (cc)) (λ q. clash (cc))))

  abbrev Begins : Act → Type 0
  Begins a = a ≡ Convert 115 x → take 1 s ≡ 115 ∷ []

  begins : (a : Act) → (conversion rest).act ≡ a → with_style (style_from flag width) a ≡ Convert 115 x → take 1 s ≡ 115 ∷ []
  unfolding with_style
  begins (Byte b) q e =
      either Begins (is_unstyled (style_from flag width)) (λ _ r. clash (cc)) (λ _ r. clash (cc)) e
  begins (Convert c u) q e =
      either Begins (takes_style (style_from flag width) c)
      (λ t r.
      let z : c ≡ 115 = cc in
      let one = alone (bare-s (style_from flag width) (rw z at t)) in
      conversion_s s u (rw (one, z) at q))
      (λ t r. clash (cc))
      e
  begins (Open c) q e =
      either Begins (is_unstyled (style_from flag width)) (λ _ r. clash (cc)) (λ _ r. clash (cc)) e
  begins Refuse q e = clash (cc)

  styled-s : (styled s).act ≡ Convert 115 x → take 1 s ≡ 115 ∷ []
  unfolding styled
  styled-s e = begins (conversion rest).act refl e

-- so a piece that is converted as s is %s
piece_s : (b : ℕ) (s : List ℕ) (x : Style) → (piece_of Writer b s).act ≡ Convert 115 x → take 2 (b ∷ s) ≡ bytes "%s"
unfolding piece_of signed bytes
piece_s b s x e =
    either (λ (p : Piece). p.act ≡ Convert 115 x → take 2 (b ∷ s) ≡ 37 ∷ 115 ∷ []) (eqb b (code "%"))
    (λ z q. rw (eqb-true b 37 z, styled-s s x q))
    (λ z q. clash (cc))
    e

-- ---- the elements of a format

-- the letter of a conversion's element, and the offset of its %
module _ (i c : ℕ) (y : Style) (h : i + 1 < longest) (l : c < 256) (w : y.width ≤ 99) where
  its-letter : letter_of (conversion_at i y c) ≡ c
  its-letter = omega arith

  after : after_sign (conversion_at i y c) ≡ i + 1
  after = omega arith

  its-sign : after_sign (conversion_at i y c) - 1 ≡ i
  its-sign = rw after (omega arith)

-- which elements are %s
byte_none : (e : ℕ) → e < 256 → is_seconds e ≡ false
unfolding is_seconds
byte_none e h = rw (lt-ltb e 256 h)

letter_is : (e : ℕ) → 256 ≤ e → eqb (letter_of e) 115 ≡ is_seconds e
unfolding is_seconds
letter_is e h = rw (le-ltb e 256 h)

-- an element that is %s stands in a format
abbrev Stands : List ℕ → ℕ → Type 0
Stands f e = is_seconds e ≡ true → take 2 (drop (after_sign e - 1) f) ≡ bytes "%s"

unfoldable AllStand : List ℕ → List ℕ → Type 0
AllStand f [] = Unit {0}
AllStand f (e ∷ es) = Stands f e × AllStand f es

module _ (f : List ℕ) where
  stand-append : (xs ys : List ℕ) → AllStand f xs → AllStand f ys → AllStand f (xs ++ ys)
  unfolding AllStand
  stand-append [] ys p q = q
  stand-append (x ∷ xs) ys p q = (p.0, stand-append xs ys p.1 q)

  -- those that are read are none
  read-stand : (es : List ℕ) → every (is_element Reader) es ≡ true → AllStand f es
  unfolding AllStand every
  read-stand [] p = tt
  read-stand (e ∷ es) p =
      let u = (and-eq-true_iff (is_element Reader e) (every (is_element Reader) es)).0 p in
      (λ z. absurd (none e u.0 z), read-stand es u.1)
    where
      none : (e : ℕ) → is_element Reader e ≡ true → is_seconds e ≡ true → ⊥
      none e r z =
          elim (dec_le 256 e) [
            | yes h ↦ let l = sym (letter_is e h) ∙ read_letter e r h in clash (cc)
            | no h ↦ let l = byte_none e (lt_of_not-le h) in clash (cc)
          ]

  composed-stand : (es : List ℕ) (d : Ended) (rest : Opening) → AllStand f es → AllStand f rest.elements
      → AllStand f (composed (record { elements = es; ended = d }) rest).elements
  unfolding composed before
  composed-stand es Whole rest p q = stand-append es rest.elements p q
  composed-stand es (BadAt k) rest p q = p

  -- what stands first, at offset i, before the rest
  acted-stand : (i n k : ℕ) (rest : Opening) (a : Act) → (1 ≤ n → i + 1 < longest) → Follows n k a → Lettered a
      → ((x : Style) → a ≡ Convert 115 x → take 2 (drop i f) ≡ bytes "%s") → AllStand f rest.elements
      → AllStand f (acted (composite_to Writer 2) i rest a).elements
  unfolding acted before nothing AllStand
  acted-stand i n k more (Byte b) h v l p q = (λ z. let n = byte_none b l in clash (cc), q)
  acted-stand i n k more (Convert c y) h v l p q = (one, q)
    where
      one : Stands f (conversion_at i y c)
      one z =
          let j : i + 1 < longest = h v.0 in
          let w : y.width ≤ 99 = v.2.width in
          let a = its-letter i c y j l w in
          let g = its-sign i c y j l w in
          let large : 256 ≤ conversion_at i y c = omega arith in
          let is : c ≡ 115 = eqb-true c 115 (rw a at (letter_is (conversion_at i y c) large ∙ z)) in
          rw g (p y (ap (λ (d : ℕ). Convert d y) is))
  acted-stand i n k more (Open c) h v l p q =
      let o = composite_to Reader 2 i c in
      rw (composites_alike i c)
      (composed-stand o.elements o.ended more (read-stand o.elements (composite_elements Reader 2 i c (h v.0))) q)
  acted-stand i n k more Refuse h v l p q = tt

  next : (i : ℕ) {c : ℕ} {s : List ℕ} → drop i f ≡ c ∷ s → drop (i + 1) f ≡ s
  next i d = sym (drop-drop 1 i f) ∙ ap (drop 1) d

  open-stand : (s : List ℕ) (i past : ℕ) → drop i f ≡ s → i + length s ≤ longest → every is_byte s ≡ true
      → AllStand f (open_from Writer (composite_to Writer 2) None i past s).elements
  unfolding open_from sign_at nothing AllStand every
  open-stand [] i past d h b = tt
  open-stand (c ∷ s) i (suc past) d h b =
      open-stand s (i + 1) past (next i d) (omega arith) ((and-eq-true_iff (is_byte c) (every is_byte s)).0 b).1
  open-stand (c ∷ s) i zero d h b =
      let u = (and-eq-true_iff (is_byte c) (every is_byte s)).0 b in
      let p = piece_of Writer c s in
      acted-stand i (length s) p.length (open_from Writer (composite_to Writer 2) None (i + 1) (p.length - 1) s) p.act
      (λ m. omega arith)
      (follows Writer c s)
      (piece_lettered c s (ltb-true c 256 u.0))
      (λ x e. rw d (piece_s c s x e))
      (open-stand s (i + 1) (p.length - 1) (next i d) (omega arith) u.1)

-- the first of them
first_stands : (f es : List ℕ) → AllStand f es → {p : ℕ} → first_seconds es ≡ Some p → take 2 (drop p f) ≡ bytes "%s"
unfolding AllStand first_seconds
first_stands f [] a e = clash (cc)
first_stands f (x ∷ es) a {p} e =
    either (λ (l : Option ℕ). l ≡ Some p → take 2 (drop p f) ≡ bytes "%s") (is_seconds x)
    (λ z q. let r : after_sign x - 1 ≡ p = cc in rw r at (a.0 z))
    (λ z q. first_stands f es a.1 q)
    e

pub seconds_stand : (f : List ℕ) → length f ≤ longest → every is_byte f ≡ true → (o : Option ℤ) {p : ℕ}
    → lacking o (opening Writer f).elements ≡ Some p → take 2 (drop p f) ≡ bytes "%s"
unfolding lacking opening open_to
seconds_stand f h b None e = first_stands f (opening Writer f).elements (open-stand f f 0 0 refl (omega arith) b) e
seconds_stand f h b (Some z) e = clash (cc)

-- ---- one element alone

pub no_seconds : (o : Option ℤ) (e : ℕ) → is_seconds e ≡ false → lacking o (e ∷ []) ≡ None
unfolding lacking first_seconds
no_seconds None e z = rw z
no_seconds (Some w) e z = refl
