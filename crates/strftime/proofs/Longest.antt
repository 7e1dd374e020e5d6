-- The longest writing: no format that is not too long writes more than `longest_writing` bytes, and one writes as many. What stands first
-- in a format writes at most 99 bytes to four of its own.
-- Assumes nothing.
use Prim.Native.Char.{code}
use Prim.Native.Nat.{ℕ, zero, suc, max, ◌+◌, ◌-◌, ◌*◌, ◌/◌, ◌%◌, ◌≤◌, ◌<◌}
use mathlib.Core.Bool.{true, false}
use mathlib.Core.List.{List, [], ◌∷◌, ◌++◌}
use mathlib.Core.Path.{◌≡◌, refl}
use native.Mathlib.Decide.{dec_le}
use native.Mathlib.Nat.{sub-zero, lt_of_not-le}
use native.Mathlib.Omega.{arith}
use borrow.Author.Tests.{eqb-true, leb-true, le-leb, lt-leb, le-ltb, ltb-true}
use lib.Dec.{T, eqb, leb, leb→le, ltb→lt}
use lib.ListN.{length, drop, length-append, length-drop}
use Rattle.std.specs.Prelude.{Option, None, Some}
use Rattle.laws.specs.Bytes.{bytes}
use Rattle.laws.specs.Lists.{every}
use Rattle.laws.proofs.Cases.{either, picked}
use Rattle.laws.proofs.Table.{both}
use Rattle.calendar.specs.Calendar.{date}
use Rattle.text.proofs.Fill.{plain_most}
use Rattle.conversions.specs.Conversions.{conversion_of, own_format, computes as rows-compute}
use Rattle.conversions.specs.Pieces.{flag_run, width_run, style_from, takes_style}
use Rattle.format.specs.Opening.{Ended, Opening, longest, conversion_at, is_byte, letter_of, style_of}
use Rattle.conversions.specs.Pieces.{after_E, after_O, paired, conversion, is_unstyled, with_style, styled}
use Rattle.format.specs.Opening.{signed, piece_of}
use Rattle.format.specs.Opening.{nothing, before, composed, acted, sign_at, open_from, composite_to, open_to, opening}
use Rattle.format.specs.Opening.{most_elements, elements_in, computes as opening-computes}
use Rattle.format.specs.Opening.Ended.{Whole, BadAt}
use Rattle.conversions.specs.declared.following.Act.{Act}
use Rattle.conversions.specs.declared.following.Act.TheVariants.{Byte, Convert, Open, Refuse}
use Rattle.conversions.specs.declared.following.Piece.{Piece}
use Rattle.format.specs.declared.opening.Side.TheVariants.{Writer}
use Rattle.conversions.specs.declared.following.Style.{Style}
use Rattle.format.proofs.Elements.{letter_below}
use Rattle.format.proofs.Pieces.{Unstyled, conversion_unstyled, Follows, follows}
use Rattle.conversions.proofs.Rows.{own_passes}
use Rattle.conversions.proofs.Small.{conversion_small}
use Rattle.conversions.proofs.Styles.{flag_run_lem, width_run_lem}
use Rattle.values.specs.Moments.{moment_fault, moment_of}
use Rattle.values.specs.Values.{value}
use Rattle.values.specs.declared.Moment.{Moment}
use Rattle.strftime.specs.Private.{IsMoment}
use Rattle.converted.specs.Converted.{places_by, formed, converted}
use Rattle.strftime.specs.Writing.{Outcome, longest_writing, numbered, element, text}
use Rattle.strftime.specs.Writing.{refused, put, is_seconds, first_seconds, lacking, offered, by_format, by_elements}
use Rattle.strftime.specs.Writing.{for_moment, for_fields, writing, elements_writing}
use Rattle.strftime.specs.declared.Fields.{Fields}
use Rattle.strftime.proofs.Complete.{puts_text}
use Rattle.converted.proofs.Lengths.{number_length}
use Rattle.strftime.proofs.Lengths.{form_most, form_most_lem, has_room, converted_most, element_byte, element_styled}
use Rattle.std.specs.Prelude.{Ok, Result, ℕ, ℤ}
use Rattle.values.specs.declared.fields.Field.{Field}

-- ---- a conversion's letter and width, in its element

module _ (sign c : ℕ) (y : Style) (h : sign + 1 < longest) (l : c < 256) (w : y.width ≤ 99) where
  its-letter : letter_of (conversion_at sign y c) ≡ c
  its-letter = omega arith

  its-style : style_of (conversion_at sign y c) ≡ y
  its-style =
      let f : conversion_at sign y c / 33554432 ≡ y.flag = omega arith in
      let k : conversion_at sign y c / 262144 % 128 ≡ y.width = omega arith in
      rw (f, k)

  its-text : (m : Moment) → element m (conversion_at sign y c) ≡ converted y (conversion_of c) m
  its-text m = rw (element_styled m (conversion_at sign y c) (omega arith) refl refl, its-style, its-letter)

-- ---- 256 times %99d: as many

-- n times %99d
unfoldable pub widest : ℕ → List ℕ
widest zero = []
widest (suc n) = bytes "%99d" ++ widest n

widest_length : (n : ℕ) → length (widest n) ≡ 4 * n
unfolding widest bytes
widest_length zero = refl
widest_length (suc n) = omega (arith, widest_length n)

-- %99d
abbrev ninety_nine : Style
ninety_nine = record { flag = 0; width = 99 }

module _ (inner : ℕ → ℕ → Opening) where
  widest-opens : (n i : ℕ) → open_from Writer inner None i 0 (widest (suc n))
      ≡ before (conversion_at i ninety_nine 100 ∷ []) (open_from Writer inner None (i + 1 + 1 + 1 + 1) 0 (widest n))
  unfolding widest rows-compute opening-computes
  widest-opens n i = refl

  widest-whole : (n i : ℕ) → (open_from Writer inner None i 0 (widest n)).ended ≡ Whole
  unfolding widest open_from nothing before
  widest-whole zero i = refl
  widest-whole (suc n) i = rw (widest-opens n i) (widest-whole n (i + 1 + 1 + 1 + 1))

module _ (m : Moment) (i : IsMoment m) where
  -- each writes 99 bytes
  ninety-nine : (sign : ℕ) → sign + 1 < longest → length (element m (conversion_at sign ninety_nine 100)) ≡ 99
  unfolding converted formed places_by rows-compute
  ninety-nine sign h =
      let r = has_room m i 100 refl in
      rw (its-text sign 100 ninety_nine h (omega arith) (omega arith) m, number_length)
      (omega (arith, plain_most 2 (value (conversion_of 100).kind m) r.0 r.1))

  widest-text : (inner : ℕ → ℕ → Opening) (n k : ℕ) → k + 4 * n ≤ longest
      → length (text m (open_from Writer inner None k 0 (widest n)).elements) ≡ 99 * n
  unfolding widest open_from nothing before text
  widest-text inner zero k h = refl
  widest-text inner (suc n) k h =
      rw (widest-opens inner n k, length-append)
      (omega (arith, ninety-nine k (omega arith), widest-text inner n (k + 1 + 1 + 1 + 1) (omega arith)))

-- none of them is %s
other_letter : (e : ℕ) → 256 ≤ e → letter_of e ≡ 100 → is_seconds e ≡ false
unfolding is_seconds
other_letter e h l = rw (le-ltb e 256 h, l)

first_none : (inner : ℕ → ℕ → Opening) (n k : ℕ) → k + 4 * n ≤ longest
    → first_seconds (open_from Writer inner None k 0 (widest n)).elements ≡ None
unfolding widest open_from nothing before first_seconds
first_none inner zero k h = refl
first_none inner (suc n) k h =
    let e = conversion_at k ninety_nine 100 in
    let l : letter_of e ≡ 100 = omega arith in
    let s = other_letter e (omega arith) l in
    rw (widest-opens inner n k, s) (first_none inner n (k + 1 + 1 + 1 + 1) (omega arith))

widest_lacks : (o : Option ℤ) (inner : ℕ → ℕ → Opening) (n k : ℕ) → k + 4 * n ≤ longest
    → lacking o (open_from Writer inner None k 0 (widest n)).elements ≡ None
unfolding lacking
widest_lacks None inner n k h = first_none inner n k h
widest_lacks (Some z) inner n k h = refl

-- whatever the moment, and every shorter buffer is too small
pub longest_needed : (t : Fields) (b : List ℕ) → moment_fault t.year t.month t.day t.hour t.minute t.second t.offset ≡ 0
    → length b < longest_writing → (writing (widest 256) t b).answer ≡ numbered 4 longest_writing
unfolding moment_of put refused opening open_to
longest_needed t b v h =
    let d = date t.year t.month t.day in
    let m : Moment = record { date = d; hour = t.hour; minute = t.minute; second = t.second; offset = t.offset } in
    let inner = composite_to Writer 2 in
    let valid : moment_of t.year t.month t.day t.hour t.minute t.second t.offset ≡ Ok m = rw v in
    let needed : length (text m (opening Writer (widest 256)).elements) ≡ longest_writing = widest-text m v inner 256 0 (omega arith) in
    let all : writing (widest 256) t b ≡ put (text m (opening Writer (widest 256)).elements) b =
    puts_text (widest 256) t b (omega (arith, widest_length 256)) (widest-whole inner 256 0) valid
    (widest_lacks t.offset inner 256 0 (omega arith)) in
    rw (all, needed, lt-leb longest_writing (length b) h)

-- ---- no more: what each piece of a format can write

-- a byte is below 256, and a conversion's letter is
abbrev pub Lettered : Act → Type 0
Lettered (Byte b) = b < 256
Lettered (Convert c y) = c < 256
Lettered (Open c) = Unit {0}
Lettered Refuse = Unit {0}

style_lettered : (y : Style) (a : Act) → Unstyled a → Lettered (with_style y a)
unfolding with_style
style_lettered y (Byte b) u = picked Lettered (is_unstyled y) (ltb-true b 256 u) tt
style_lettered y (Convert c x) u = picked Lettered (takes_style y c) (letter_below c u.0) tt
style_lettered y (Open c) u = picked Lettered (is_unstyled y) tt tt
style_lettered y Refuse u = tt

pub piece_lettered : (b : ℕ) (s : List ℕ) → b < 256 → Lettered (piece_of Writer b s).act
unfolding piece_of signed styled
piece_lettered b s h =
    let f = flag_run s in
    let w = width_run (drop (length f) s) in
    let rest = drop (length f + length w) s in
    picked (λ (p : Piece). Lettered p.act) (eqb b (code "%"))
    (style_lettered (style_from f w) (conversion rest).act (conversion_unstyled rest))
    h

-- it ends within the format
paired_within : (letters s : List ℕ) → (paired letters s).length ≤ 2 + length s
unfolding paired
paired_within letters [] = omega arith
paired_within letters (b ∷ s) = omega arith

conversion_within : (s : List ℕ) → (conversion s).length ≤ 1 + length s
unfolding conversion
conversion_within [] = omega arith
conversion_within (b ∷ s) =
    let P : Piece → Type 0 = λ p. p.length ≤ 1 + suc (length s) in
    picked P (eqb b (code "E")) (omega (arith, paired_within after_E s))
    (picked P (eqb b (code "O")) (omega (arith, paired_within after_O s)) (omega arith))

piece_within : (b : ℕ) (s : List ℕ) → (piece_of Writer b s).length ≤ 1 + length s
unfolding piece_of signed styled
piece_within b s =
    let f = flag_run s in
    let w = width_run (drop (length f) s) in
    let n = length f + length w in
    let rest = drop n s in
    picked (λ (p : Piece). p.length ≤ 1 + length s) (eqb b (code "%"))
    (omega (
      arith,
      (flag_run_lem s).within,
      (width_run_lem (drop (length f) s)).within,
      conversion_within rest,
      length-drop (length f) s,
      length-drop n s,
    ))
    (omega arith)

-- the most bytes that what stands first writes, and all of a format after its next `past` bytes; `inner` says it of composites
module _ (inner : ℕ → ℕ) where
  unfoldable actMost : Act → ℕ
  actMost (Byte b) = 1
  actMost (Convert c y) = max y.width (form_most (conversion_of c).form (conversion_of c).width)
  actMost (Open c) = inner c
  actMost Refuse = 0

  unfoldable formatMost : ℕ → List ℕ → ℕ
  formatMost past [] = 0
  formatMost (suc past) (b ∷ s) = formatMost past s
  formatMost zero (b ∷ s) =
      let p = piece_of Writer b s in
      let more = formatMost (p.length - 1) s in
      actMost p.act + more

unfoldable composite_most : ℕ → ℕ → ℕ
composite_most zero c = 0
composite_most (suc depth) c = formatMost (composite_most depth) 0 (own_format c)

-- ---- what they write is no more

module _ (m : Moment) where
  text-append : (xs ys : List ℕ) → length (text m (xs ++ ys)) ≡ length (text m xs) + length (text m ys)
  unfolding text
  text-append [] ys = omega arith
  text-append (x ∷ xs) ys =
      let first = element m x in
      omega (arith, text-append xs ys, length-append first (text m xs), length-append first (text m (xs ++ ys)))

  composed-text : (es : List ℕ) (d : Ended) (rest : Opening)
      → length (text m (composed (record { elements = es; ended = d }) rest).elements)
      ≤ length (text m es) + length (text m rest.elements)
  unfolding composed before
  composed-text es Whole rest = omega (arith, text-append es rest.elements)
  composed-text es (BadAt p) rest = omega arith

  module _ (i : IsMoment m) where
    module _ (inner : ℕ → ℕ → Opening) (most : ℕ → ℕ)
        (few : (sign c : ℕ) → sign + 1 < longest → length (text m (inner sign c).elements) ≤ most c) (g : Option ℕ) where
      acted-text : (n k sign : ℕ) (rest : Opening) → (1 ≤ n → sign + 1 < longest) → (a : Act) → Follows n k a → Lettered a
          → length (text m (acted inner sign rest a).elements) ≤ actMost most a + length (text m rest.elements)
      unfolding acted actMost before nothing text
      acted-text n k sign rest h (Byte b) f l = rw (element_byte m b l) (omega arith)
      acted-text n k sign rest h (Convert c y) f l =
          let r = conversion_of c in
          let w = max y.width (form_most r.form r.width) in
          rw (its-text sign c y (h f.0) l f.2.width m, length-append)
          (omega (arith, converted_most m i w c y (omega arith) (omega arith)))
      acted-text n k sign rest h (Open c) f l =
          let o = inner sign c in
          omega (arith, few sign c (h f.0), composed-text o.elements o.ended rest)
      acted-text n k sign rest h Refuse f l = omega arith

      open-text : (s : List ℕ) (k past : ℕ) → T (every is_byte s) → ((j : ℕ) → j + 1 < k + length s → sign_at g j + 1 < longest)
          → length (text m (open_from Writer inner g k past s).elements) ≤ formatMost most past s
      unfolding open_from formatMost nothing text every
      open-text [] k past e l = omega arith
      open-text (b ∷ s) k (suc past) e l =
          open-text s (k + 1) past (both (is_byte b) (every is_byte s) e).1 (λ j h. l j (omega arith))
      open-text (b ∷ s) k zero e l =
          let p = piece_of Writer b s in
          let rest = open_from Writer inner g (k + 1) (p.length - 1) s in
          let f = follows Writer b s in
          let u = both (is_byte b) (every is_byte s) e in
          let w = piece_lettered b s (ltb→lt b 256 u.0) in
          omega (
            arith,
            acted-text (length s) p.length (sign_at g k) rest (λ h. l k (omega arith)) p.act f w,
            open-text s (k + 1) (p.length - 1) u.1 (λ j h. l j (omega arith)),
          )

    composite-text : (depth sign c : ℕ) → sign + 1 < longest
        → length (text m (composite_to Writer depth sign c).elements) ≤ composite_most depth c
    unfolding composite_to composite_most nothing text sign_at
    composite-text zero sign c h = omega arith
    composite-text (suc depth) sign c h =
        open-text (composite_to Writer depth) (composite_most depth) (composite-text depth) (Some sign) (own_format c) 0 0
        (own_passes (every is_byte) c (unfold rows-compute every in tt) (unfold every in tt))
        (λ j k. h)

-- ---- and that is 99 bytes to four

module _ (inner : ℕ → ℕ) (few : (c : ℕ) → inner c ≤ 49) where
  -- what stands first takes k bytes, and n bytes follow its first
  act-bound : (n k more : ℕ) → k ≤ 1 + n → 4 * more ≤ 99 * (n - (k - 1)) → (a : Act) → Follows n k a
      → 4 * (actMost inner a + more) ≤ 99 * suc n
  unfolding actMost
  act-bound n k more l h (Byte b) f = omega arith
  act-bound n k more l h (Convert c y) f =
      let r = conversion_of c in
      let own : form_most r.form r.width ≤ 13 = form_most_lem r.form r.width (conversion_small c).width in
      elim (dec_le 10 y.width) [
        | yes w ↦ omega (arith, own, f.2.bytes w)
        | no w ↦ omega (arith, own, lt_of_not-le w)
      ]
  act-bound n k more l h (Open c) f = omega (arith, few c)
  act-bound n k more l h Refuse f = omega arith

  format-bound : (s : List ℕ) (past : ℕ) → 4 * formatMost inner past s ≤ 99 * (length s - past)
  unfolding formatMost
  format-bound [] past = omega arith
  format-bound (b ∷ s) (suc past) = omega (arith, format-bound s past)
  format-bound (b ∷ s) zero =
      let p = piece_of Writer b s in
      rw sub-zero
      (act-bound (length s) p.length (formatMost inner (p.length - 1) s) (piece_within b s) (format-bound s (p.length - 1)) p.act
      (follows Writer b s))

-- each composite's own format
few : (c : ℕ) → composite_most 2 c ≤ 49
unfolding composite_most form_most
few c =
    leb→le (composite_most 2 c) 49
    (own_passes (λ s. leb (formatMost (composite_most 1) 0 s) 49) c
    (unfold actMost formatMost composite_most rows-compute opening-computes every in tt)
    (unfold formatMost in tt))

module _ (f : List ℕ) (short : length f ≤ longest) (all-bytes : every is_byte f ≡ true) where
  pub longest_text : (m : Moment) → IsMoment m → length (text m (opening Writer f).elements) ≤ longest_writing
  unfolding opening open_to sign_at
  longest_text m i =
      omega (
        arith,
        open-text m i (composite_to Writer 2) (composite_most 2) (composite-text m i 2) None f 0 0 (rw all-bytes tt) (λ j h. omega arith),
        format-bound (composite_most 2) few f 0,
      )

-- ---- a buffer of that size is enough for every writing

abbrev Enough : Outcome → Type 0
Enough w = w.answer.number ≡ 4 → ⊥

put_enough : (s b : List ℕ) → length s ≤ length b → Enough (put s b)
unfolding put
put_enough s b h = rw (le-leb (length s) (length b) h) (λ e. omega arith)

offered_enough : (es b : List ℕ) (m : Moment) → length (text m es) ≤ length b → Enough (offered es b m)
unfolding offered refused
offered_enough es b m h = go (lacking m.offset es) refl
  where
    go : (l : Option ℕ) → lacking m.offset es ≡ l → Enough (offered es b m)
    go None e = rw e (put_enough (text m es) b h)
    go (Some p) e = rw e (λ z. omega arith)

fields_enough : (rest : Moment → Outcome) (t : Fields) (b : List ℕ) → ((m : Moment) → IsMoment m → Enough (rest m))
    → Enough (for_fields rest b t)
unfolding for_fields for_moment moment_of refused
fields_enough rest t b f =
    let fault = moment_fault t.year t.month t.day t.hour t.minute t.second t.offset in
    either (λ (r : Result Moment Field). Enough (for_moment rest b r)) (eqb fault 0) (λ z. f _ (eqb-true fault 0 z)) (λ _ e. omega arith)

-- by a format
pub longest_writing_lem : (f : List ℕ) (t : Fields) (b : List ℕ) → every is_byte f ≡ true → longest_writing ≤ length b
    → (writing f t b).answer.number ≡ 4 → ⊥
unfolding writing by_format refused
longest_writing_lem f t b all-bytes h =
    either Enough (leb (length f) longest)
    (λ e. fields_enough (by_format f b) t b (λ m i. by-format (leb-true (length f) longest e) m i (opening Writer f).ended refl))
    (λ _ e. omega arith)
  where
    by-format : length f ≤ longest → (m : Moment) → IsMoment m → (d : Ended) → (opening Writer f).ended ≡ d
        → Enough (by_format f b m)
    by-format short m i Whole e =
        rw e (offered_enough (opening Writer f).elements b m (omega (arith, longest_text f short all-bytes m i)))
    by-format short m i (BadAt p) e = rw e (λ z. omega arith)

-- and by the elements that it opens to
pub longest_elements : (f : List ℕ) (t : Fields) (b : List ℕ) → length f ≤ longest → every is_byte f ≡ true
    → longest_writing ≤ length b → (elements_writing (opening Writer f).elements t b).answer.number ≡ 4 → ⊥
unfolding elements_writing by_elements refused
longest_elements f t b short all-bytes h =
    let es = (opening Writer f).elements in
    fields_enough (by_elements es b) t b
    (λ m i. either Enough (eqb (elements_in Writer most_elements es) (length es))
    (λ _. offered_enough es b m (omega (arith, longest_text f short all-bytes m i)))
    (λ _ e. omega arith))
