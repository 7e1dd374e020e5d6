-- What an element writes, and how long that is: without a width at most nine bytes, but for %s, by one test over the table of conversions;
-- with one at most its width or nine.
-- Assumes nothing.
use Prim.Native.Nat.{ℕ, ◌+◌, ◌*◌, ◌/◌, ◌%◌, ◌^◌, ◌≤◌, ◌<◌}
use mathlib.Core.Bool.{Bool, true, cond, ◌&&◌, and-eq-true_iff}
use mathlib.Core.List.{List, [], ◌∷◌, ◌++◌}
use mathlib.Core.Path.{◌≡◌, refl}
use native.Mathlib.Decide.{dec_le}
use native.Mathlib.Nat.{lt_of_not-le}
use native.Mathlib.Numerals.{add-one}
use native.Mathlib.Omega.{arith}
use borrow.Author.Tests.{lt-ltb, le-ltb, ltb-true, ltb-false, leb-true}
use lib.Dec.{leb, ltb, leb→le, ltb→lt, lit≤}
use lib.IntN.{nat_abs}
use lib.ListN.{length, drop, get_or, length-append, length-take, drop_of_length-le}
use lib.Seq.{drop-cons}
use Rattle.laws.specs.Lists.{every}
use Rattle.laws.proofs.Cases.{either, clash}
use Rattle.laws.proofs.Table.{both}
use Rattle.names.specs.Naming.{name_for}
use Rattle.text.proofs.Fill.{plain_most}
use Rattle.conversions.specs.Conversions.{conversion_of, is_number, computes as rows-compute}
use Rattle.conversions.specs.Pieces.{unstyled, is_read}
use Rattle.format.specs.Opening.{is_byte, letter_of, is_plain, style_of, is_taken, is_element}
use Rattle.conversions.specs.declared.conversions.Conversion.{Conversion}
use Rattle.conversions.specs.declared.conversions.Form.{Form}
use Rattle.conversions.specs.declared.conversions.Form.TheVariants.{Zeros, Blanks, FromSunday, Short, Full, Lower, Zone, Seconds, Unknown}
use Rattle.format.specs.declared.opening.Side.TheVariants.{Reader}
use Rattle.conversions.specs.declared.following.Style.{Style}
use Rattle.format.proofs.Elements.{element_conversion, read_letter}
use Rattle.conversions.proofs.Rows.{conversion_passes, seconds_letter}
use Rattle.conversions.proofs.Small.{conversion_small}
use Rattle.values.specs.Offsets.{is_offset, seconds}
use Rattle.values.specs.Values.{value}
use Rattle.values.specs.declared.Moment.{Moment}
use Rattle.values.proofs.Ranges.{highest, no_fault_moment, value_ranged}
use Rattle.values.proofs.Seconds.{seconds_most}
use Rattle.converted.proofs.Lengths.{number_length, name_length, places_most, name_most}
use Rattle.strftime.specs.Private.{IsMoment, HasRoom}
use Rattle.converted.specs.Converted.{formed, converted}
use Rattle.strftime.specs.Writing.{element, text}
use Rattle.converted.specs.Zones.{zone, epoch_seconds}
use Rattle.converted.proofs.Offsets.{zone_short, whole_most}
use Rattle.std.specs.Prelude.{None, Option, Some, ℤ}

-- ---- what an element writes

module _ (m : Moment) (e : ℕ) where
  pub element_byte : e < 256 → element m e ≡ e ∷ []
  unfolding element
  element_byte h = rw (lt-ltb e 256 h)

  module _ (h : 256 ≤ e) {c : Conversion} (p : c ≡ conversion_of (e % 256)) where
    pub element_styled : {y : Style} → y ≡ style_of e → element m e ≡ converted y c m
    unfolding element
    element_styled q = rw (le-ltb e 256 h, ← p, q)

    pub element_plain : e < 262144 → element m e ≡ converted unstyled c m
    element_plain l =
        let f : e / 33554432 ≡ 0 = omega arith in
        let w : e / 262144 % 128 ≡ 0 = omega arith in
        element_styled (rw (f, w))

-- ---- how long it is

-- the value of a number has no more digits than its width: one test over the rows
roomy : Conversion → Bool
roomy c = cond (is_number c.form) (leb 1 c.width && ltb (get_or highest c.kind 0) (10 ^ c.width)) true

pub has_room : (m : Moment) → IsMoment m → (c : ℕ) → HasRoom (conversion_of c) m
unfolding roomy
has_room m i c e =
    let r = conversion_of c in
    let t = conversion_passes roomy c (unfold rows-compute highest every in tt) (unfold rows-compute in tt) in
    let u = both (leb 1 r.width) (ltb (get_or highest r.kind 0) (10 ^ r.width)) (rw e at t) in
    let v = value_ranged m (no_fault_moment m i) r.kind (omega (arith, (conversion_small c).kind)) in
    (leb→le 1 r.width u.0, omega (arith, ltb→lt (get_or highest r.kind 0) (10 ^ r.width) u.1, v.1))

-- the room of a conversion whose form is known
pub room_of : (c : Conversion) (m : Moment) → HasRoom c m → {f : Form} {v : ℕ} → c.form ≡ f → is_number f ≡ true → v ≡ value c.kind m
    → (1 ≤ c.width) × (v < 10 ^ c.width)
room_of c m h p q e = rw e (h (rw p q))

-- ---- %z and %s

zone_most : (o : Option ℤ) → length (zone o) ≤ 9
zone_most o = omega (arith, zone_short o)

-- the seconds of a valid moment have at most twelve digits, and a sign
seconds_few : (m : Moment) → IsMoment m → length (epoch_seconds m m.offset) ≤ 13
unfolding epoch_seconds
seconds_few m i = go m.offset (no_fault_moment m i).offset
  where
    go : (o : Option ℤ) → is_offset o ≡ true → length (epoch_seconds m o) ≤ 13
    go None e = omega arith
    go (Some z) e =
        let h = seconds_most m (no_fault_moment m i) z (leb-true (nat_abs z) 1439 (unfold is_offset in e)) in
        omega (arith, whole_most (seconds m z), plain_most 12 (nat_abs (seconds m z)) (lit≤ tt) h)

-- the most bytes that a form and its width write by themselves: a number its width, a name or an offset nine, seconds thirteen
unfoldable pub form_most : Form → ℕ → ℕ
form_most Zeros w = w
form_most Blanks w = w
form_most FromSunday w = w
form_most (Short t) w = 9
form_most (Full t) w = 9
form_most (Lower t) w = 9
form_most Zone w = 9
form_most Seconds w = 13
form_most Unknown w = 0

pub form_most_lem : (f : Form) (w : ℕ) → w ≤ 9 → form_most f w ≤ 13
unfolding form_most
form_most_lem Zeros w h = omega arith
form_most_lem Blanks w h = omega arith
form_most_lem FromSunday w h = omega arith
form_most_lem (Short t) w h = lit≤ tt
form_most_lem (Full t) w h = lit≤ tt
form_most_lem (Lower t) w h = lit≤ tt
form_most_lem Zone w h = lit≤ tt
form_most_lem Seconds w h = lit≤ tt
form_most_lem Unknown w h = lit≤ tt

-- nine, but for %s
plain_form_most : (f : Form) (w : ℕ) → w ≤ 9 → (f ≡ Seconds → ⊥) → form_most f w ≤ 9
unfolding form_most
plain_form_most Zeros w h n = h
plain_form_most Blanks w h n = h
plain_form_most FromSunday w h n = h
plain_form_most (Short t) w h n = lit≤ tt
plain_form_most (Full t) w h n = lit≤ tt
plain_form_most (Lower t) w h n = lit≤ tt
plain_form_most Zone w h n = lit≤ tt
plain_form_most Seconds w h n = absurd (n refl)
plain_form_most Unknown w h n = lit≤ tt

-- a form writes no more than n bytes, which has room for that and for the width asked for
module _ (m : Moment) (i : IsMoment m) where
  formed-most : (n : ℕ) (y : Style) → y.width ≤ n → (f : Form) (w v : ℕ) → form_most f w ≤ n
      → (is_number f ≡ true → (1 ≤ w) × (v < 10 ^ w)) → length (formed m y f w v) ≤ n
  unfolding formed form_most is_number
  formed-most n y k Zeros w v l r =
      omega (arith, number_length y 48 w v, places_most y w, plain_most w v (r refl).0 (r refl).1)
  formed-most n y k Blanks w v l r =
      omega (arith, number_length y 32 w v, places_most y w, plain_most w v (r refl).0 (r refl).1)
  formed-most n y k FromSunday w v l r =
      let q = r refl in
      omega (arith, number_length y 48 w (v % 7), places_most y w, plain_most w (v % 7) q.0 (omega (arith, q.1)))
  formed-most n y k (Short t) w v l r = rw name_length (omega (arith, name_most t v, length-take 3 (name_for t v)))
  formed-most n y k (Full t) w v l r = rw name_length (omega (arith, name_most t v))
  formed-most n y k (Lower t) w v l r = rw name_length (omega (arith, name_most t v))
  formed-most n y k Zone w v l r = omega (arith, zone_most m.offset)
  formed-most n y k Seconds w v l r = omega (arith, seconds_few m i)
  formed-most n y k Unknown w v l r = omega arith

-- an element that is read has no width, and is no %s
module _ (e : ℕ) (p : is_element Reader e ≡ true) where
  plain-width : (style_of e).width ≤ 9
  unfolding is_taken
  plain-width =
      elim (dec_le 256 e) [
        | yes h ↦
            let t = (and-eq-true_iff (is_plain e) (is_read (letter_of e))).0 (element_conversion Reader e p h).1 in
            omega (arith, ltb-true e 262144 t.0)
        | no h ↦ omega (arith, lt_of_not-le h)
      ]

  plain_form : 256 ≤ e → (conversion_of (letter_of e)).form ≡ Seconds → ⊥
  plain_form h q = let s = seconds_letter (letter_of e) q in let r = read_letter e p h in clash (cc)

module _ (m : Moment) (i : IsMoment m) where
  pub converted_most : (n c : ℕ) (y : Style) → y.width ≤ n → form_most (conversion_of c).form (conversion_of c).width ≤ n
      → length (converted y (conversion_of c) m) ≤ n
  unfolding converted
  converted_most n c y k l =
      let r = conversion_of c in
      formed-most m i n y k r.form r.width (value r.kind m) l (has_room m i c)

  element-most : (n e : ℕ) → 1 ≤ n → (style_of e).width ≤ n
      → (256 ≤ e → form_most (conversion_of (letter_of e)).form (conversion_of (letter_of e)).width ≤ n) → length (element m e) ≤ n
  unfolding element
  element-most n e h k l =
      either (λ (s : List ℕ). length s ≤ n) (is_byte e) (λ _. omega arith)
      (λ b. converted_most n (letter_of e) (style_of e) k (l (ltb-false e 256 b)))

  plain-most-nine : (e : ℕ) → is_element Reader e ≡ true → length (element m e) ≤ 9
  plain-most-nine e p =
      let r = conversion_of (letter_of e) in
      element-most 9 e (lit≤ tt) (plain-width e p)
      (λ h. plain_form_most r.form r.width (conversion_small (letter_of e)).width (plain_form e p h))

  any-most : (e : ℕ) → length (element m e) ≤ 127
  any-most e =
      let r = conversion_of (letter_of e) in
      element-most 127 e (lit≤ tt) (omega arith)
      (λ h. omega (arith, form_most_lem r.form r.width (conversion_small (letter_of e)).width))

  -- elements for reading: nine bytes each
  pub text_most : (es : List ℕ) → every (is_element Reader) es ≡ true → length (text m es) ≤ 9 * length es
  unfolding text every
  text_most [] p = omega arith
  text_most (e ∷ es) p =
      let u = (and-eq-true_iff (is_element Reader e) (every (is_element Reader) es)).0 p in
      rw length-append (omega (arith, plain-most-nine e u.0, text_most es u.1))

  -- any elements
  pub text_any : (es : List ℕ) → length (text m es) ≤ 127 * length es
  unfolding text
  text_any [] = omega arith
  text_any (e ∷ es) = rw length-append (omega (arith, any-most e, text_any es))

-- ---- the elements from a place on

module _ (m : Moment) (es : List ℕ) (i : ℕ) where
  pub text_next : i < length es → text m (drop i es) ≡ element m (get_or es i 0) ++ text m (drop (i + 1) es)
  unfolding text
  text_next h = rw (drop-cons es i 0 h, add-one i)

  pub text_end : length es ≤ i → text m (drop i es) ≡ []
  unfolding text
  text_end h = rw (drop_of_length-le es h)
