-- What the elements of a format are: each is a byte, or a conversion whose % has its letter within the longest format.
-- Assumes nothing.
use Prim.Native.Char.{code}
use Prim.Native.Nat.{ℕ, zero, suc, ◌+◌, ◌-◌, ◌/◌, ◌%◌, ◌≤◌, ◌<◌}
use mathlib.Core.Bool.{Bool, true, false, not, ◌&&◌, and-eq-true_iff}
use mathlib.Core.List.{List, [], ◌∷◌, map}
use mathlib.Core.Path.{◌≡◌, refl}
use native.Mathlib.Decide.{dec_le}
use native.Mathlib.Nat.{lt_of_not-le}
use native.Mathlib.Omega.{arith}
use borrow.Author.Tests.{lt-ltb, le-ltb, le-leb}
use lib.Dec.{T, eqb, leb, lit<}
use lib.ListN.{length, get_or, drop}
use Rattle.laws.specs.Lists.{every}
use Rattle.laws.proofs.Cases.{either, picked, clash}
use Rattle.laws.proofs.Lists.{each, every_of, every_append}
use Rattle.conversions.specs.Conversions.{Row, among, rows, is_conversion, conversion_of, own_format, computes as rows-compute}
use Rattle.conversions.specs.Pieces.{unstyled}
use Rattle.format.specs.Opening.{Ended, Opening, longest, conversion_at, is_byte, is_plain, letter_of, after_sign}
use Rattle.conversions.specs.Pieces.{conversion, flags, flag_run, width_run, style_from, takes_style, is_unstyled, with_style, is_read}
use Rattle.conversions.specs.Pieces.{to_read}
use Rattle.conversions.specs.Pieces.{styled}
use Rattle.format.specs.Opening.{signed, piece_of, nothing, before, composed, acted, sign_at, open_from, composite_to}
use Rattle.format.specs.Opening.{open_to, opening, most_elements, is_taken, is_element, elements_in}
use Rattle.format.specs.Opening.Ended.{Whole, BadAt}
use Rattle.conversions.specs.declared.conversions.Form.TheVariants.{Unknown}
use Rattle.conversions.specs.declared.following.Act.{Act}
use Rattle.conversions.specs.declared.following.Act.TheVariants.{Byte, Convert, Open, Refuse}
use Rattle.conversions.specs.declared.following.Piece.{Piece}
use Rattle.format.specs.declared.opening.Side.{Side}
use Rattle.format.specs.declared.opening.Side.TheVariants.{Writer, Reader}
use Rattle.conversions.specs.declared.following.Style.{Style}
use Rattle.format.proofs.Bound.{bound}
use Rattle.format.proofs.Entries.{all_in}
use Rattle.conversions.proofs.Letters.{among_past}
use Rattle.format.proofs.Pieces.{Unstyled, conversion_unstyled, Follows, follows}
use Rattle.conversions.proofs.Rows.{own_passes, conversion_known}
use Rattle.conversions.proofs.Styles.{flag_run_lem, width_run_lem}
use Rattle.std.specs.Prelude.{None, Option, Some, ℕ}

-- a conversion's letter is a byte
pub letter_below : (c : ℕ) → is_conversion c ≡ true → c < 256
unfolding is_conversion
letter_below c e =
    elim (dec_le 256 c) [
      | yes h ↦ let f = among_past 256 (map (λ (r : Row). r.letter) rows) (unfold rows-compute in tt) c h in clash (cc)
      | no h ↦ lt_of_not-le h
    ]

byte_element : (side : Side) (b : ℕ) → is_byte b ≡ true → is_element side b ≡ true
unfolding is_element
byte_element side b e = rw e

-- a flag and a width that a side takes with a letter
abbrev Takes : Side → ℕ → Style → Type 0
Takes Writer c y =
    (y.width ≤ 99) × (among y.flag (0 ∷ flags) ≡ true) × (takes_style y c ≡ true)
Takes Reader c y = (y ≡ unstyled) × (is_read c ≡ true)

-- the parts of an element
module _ (sign c : ℕ) (y : Style) (h : sign + 1 < longest) (l : c < 256) (w : y.width < 128) where
  element-large : 256 ≤ conversion_at sign y c
  element-large = omega arith

  element-letter : letter_of (conversion_at sign y c) ≡ c
  element-letter = omega arith

  element-sign : after_sign (conversion_at sign y c) ≡ sign + 1
  element-sign = omega arith

  element-flag : conversion_at sign y c / 33554432 ≡ y.flag
  element-flag = omega arith

  element-width : conversion_at sign y c / 262144 % 128 ≡ y.width
  element-width = omega arith

conversion_element : (side : Side) (sign c : ℕ) (y : Style) → sign + 1 < longest → is_conversion c ≡ true → Takes side c y
    → is_element side (conversion_at sign y c) ≡ true
unfolding is_element is_taken
conversion_element Writer sign c y h e t =
    let l = letter_below c e in
    let w : y.width < 128 = omega (arith, t.0) in
    rw (
      le-ltb (conversion_at sign y c) 256 (element-large sign c y h l w),
      element-letter sign c y h l w,
      element-sign sign c y h l w,
      element-flag sign c y h l w,
      element-width sign c y h l w,
      e,
      le-leb 1 (sign + 1) (omega arith),
      le-leb y.width 99 t.0,
      t.1,
      t.2,
    )
conversion_element Reader sign c y h e t =
    let l = letter_below c e in
    let m : letter_of (conversion_at sign unstyled c) ≡ c = element-letter sign c unstyled h l (lit< tt) in
    let a : after_sign (conversion_at sign unstyled c) ≡ sign + 1 = element-sign sign c unstyled h l (lit< tt) in
    rw t.0
    (rw (
      le-ltb (conversion_at sign unstyled c) 256 (element-large sign c unstyled h l (lit< tt)),
      m,
      a,
      e,
      le-leb 1 (sign + 1) (omega arith),
      lt-ltb (conversion_at sign unstyled c) 262144 (omega arith),
      t.1,
    ))

-- ---- what stands first stores such

abbrev Stores : Side → Act → Type 0
Stores side (Byte b) = is_byte b ≡ true
Stores side (Convert c y) = (is_conversion c ≡ true) × Takes side c y
Stores side (Open c) = Unit {0}
Stores side Refuse = Unit {0}

-- a flag and a width are stored with a conversion that takes them
style_stores : (y : Style) → y.width ≤ 99 → among y.flag (0 ∷ flags) ≡ true → (a : Act) → Unstyled a
    → Stores Writer (with_style y a)
unfolding with_style
style_stores y w k (Byte b) e = picked (Stores Writer) (is_unstyled y) e tt
style_stores y w k (Convert c x) e =
    either (Stores Writer) (takes_style y c) (λ t. (e.0, (w, k, t))) (λ t. tt)
style_stores y w k (Open c) e = picked (Stores Writer) (is_unstyled y) tt tt
style_stores y w k Refuse e = tt

signed_stores : (side : Side) (s : List ℕ) → Stores side (signed side s).act
unfolding signed styled style_from to_read
signed_stores Writer s =
    let f = flag_run s in
    let w = width_run (drop (length f) s) in
    let rest = drop (length f + length w) s in
    style_stores (style_from f w) (width_run_lem (drop (length f) s)).most (flag_run_lem s).known (conversion rest).act
    (conversion_unstyled rest)
signed_stores Reader s = go (conversion s).act (conversion_unstyled s)
  where
    go : (a : Act) → Unstyled a → Stores Reader (to_read a)
    go (Byte b) u = u
    go (Convert c y) u = either (Stores Reader) (is_read c) (λ t. (u.0, (u.1, t))) (λ t. tt)
    go (Open c) u = u
    go Refuse u = u

piece_stores : (side : Side) (b : ℕ) (s : List ℕ) → is_byte b ≡ true → Stores side (piece_of side b s).act
unfolding piece_of
piece_stores side b s h = picked (λ (p : Piece). Stores side p.act) (eqb b (code "%")) (signed_stores side s) h

-- ---- and so does all of a format

-- the elements of an opening
abbrev Elements : Side → Opening → Type 0
Elements side o = every (is_element side) o.elements ≡ true

composed_elements : (side : Side) (e : List ℕ) (d : Ended) (rest : Opening) → every (is_element side) e ≡ true → Elements side rest
    → Elements side (composed (record { elements = e; ended = d }) rest)
unfolding composed before
composed_elements side e Whole rest f g = every_append (is_element side) e rest.elements f g
composed_elements side e (BadAt p) rest f g = f

module _ (side : Side) (inner : ℕ → ℕ → Opening) (f : (sign c : ℕ) → sign + 1 < longest → Elements side (inner sign c)) (g : Option ℕ) where
  acted-elements : (n k sign : ℕ) (rest : Opening) → (1 ≤ n → sign + 1 < longest) → Elements side rest → (a : Act) → Follows n k a
      → Stores side a → Elements side (acted inner sign rest a)
  unfolding acted before nothing every
  acted-elements n k sign rest h r (Byte b) w e = rw (byte_element side b e) r
  acted-elements n k sign rest h r (Convert c y) w e = rw (conversion_element side sign c y (h w.0) e.0 e.1) r
  acted-elements n k sign rest h r (Open c) w e =
      let o = inner sign c in
      composed_elements side o.elements o.ended rest (f sign c (h w.0)) r
  acted-elements n k sign rest h r Refuse w e = refl

  open-elements : (s : List ℕ) (i past : ℕ) → every is_byte s ≡ true → ((k : ℕ) → k + 1 < i + length s → sign_at g k + 1 < longest)
      → Elements side (open_from side inner g i past s)
  unfolding open_from nothing every
  open-elements [] i past h l = refl
  open-elements (b ∷ s) i (suc past) h l =
      open-elements s (i + 1) past ((and-eq-true_iff (is_byte b) (every is_byte s)).0 h).1 (λ k m. l k (omega arith))
  open-elements (b ∷ s) i zero h l =
      let p = piece_of side b s in
      let u = (and-eq-true_iff (is_byte b) (every is_byte s)).0 h in
      acted-elements (length s) p.length (sign_at g i) (open_from side inner g (i + 1) (p.length - 1) s)
      (λ m. l i (omega arith))
      (open-elements s (i + 1) (p.length - 1) u.1 (λ k m. l k (omega arith)))
      p.act
      (follows side b s)
      (piece_stores side b s u.0)

own_bytes : (c : ℕ) → every is_byte (own_format c) ≡ true
own_bytes c = T→eq (every is_byte (own_format c)) (own_passes (every is_byte) c (unfold rows-compute every in tt) (unfold every in tt))
  where
    T→eq : (a : Bool) → T a → a ≡ true
    T→eq true t = refl
    T→eq false t = absurd t

pub composite_elements : (side : Side) (depth sign c : ℕ) → sign + 1 < longest → Elements side (composite_to side depth sign c)
unfolding composite_to nothing every sign_at
composite_elements side zero sign c h = refl
composite_elements side (suc depth) sign c h =
    open-elements side (composite_to side depth) (composite_elements side depth) (Some sign) (own_format c) 0 0 (own_bytes c) (λ k m. h)

-- a format of bytes that is not too long
module _ (side : Side) (s : List ℕ) (short : length s ≤ longest) (bytes : every is_byte s ≡ true) where
  pub elements : every (is_element side) (opening side s).elements ≡ true
  unfolding opening open_to sign_at
  elements = open-elements side (composite_to side 2) (composite_elements side 2) None s 0 0 bytes (λ k m. omega arith)

  pub element_at : (k : ℕ) → k < length (opening side s).elements → is_element side (get_or (opening side s).elements k 0) ≡ true
  element_at k h = each (is_element side) 0 (opening side s).elements elements k (λ l. absurd (omega arith))

  -- every entry of its opening counts as an element
  pub all_elements : elements_in side most_elements (opening side s).elements ≡ length (opening side s).elements
  all_elements = all_in side most_elements (opening side s).elements elements (omega (arith, bound side s))

-- the bytes of a slice
pub are_bytes : (s : List ℕ) → ((k : ℕ) → k < length s → get_or s k 0 < 256) → every is_byte s ≡ true
are_bytes s f = every_of is_byte 0 s (λ k h. lt-ltb (get_or s k 0) 256 (f k h))

-- ---- an entry that is an element and no byte is a conversion, with a flag and a width that the side takes

pub element_conversion : (side : Side) (e : ℕ) → is_element side e ≡ true → 256 ≤ e
    → (is_conversion (letter_of e) ≡ true) × (is_taken side e ≡ true)
unfolding is_element
element_conversion side e t h =
    let u = (and-eq-true_iff (is_conversion (letter_of e)) (leb 1 (after_sign e) && is_taken side e)).0 (rw (le-ltb e 256 h) at t) in
    (u.0, ((and-eq-true_iff (leb 1 (after_sign e)) (is_taken side e)).0 u.1).1)

-- to the reader it is no %s
pub read_letter : (e : ℕ) → is_element Reader e ≡ true → 256 ≤ e → eqb (letter_of e) (code "s") ≡ false
unfolding is_taken is_read
read_letter e t h =
    not-true-false (eqb (letter_of e) (code "s"))
    ((and-eq-true_iff (is_plain e) (is_read (letter_of e))).0 (element_conversion Reader e t h).1).1
  where
    not-true-false : (b : Bool) → not b ≡ true → b ≡ false
    not-true-false false q = refl
    not-true-false true q = clash cc

pub element_known : (side : Side) (e : ℕ) → is_element side e ≡ true → 256 ≤ e → (conversion_of (letter_of e)).form ≡ Unknown → ⊥
element_known side e t h = conversion_known (letter_of e) (element_conversion side e t h).0
