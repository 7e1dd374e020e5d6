-- A format opened for the writer and for the reader: the two are the same, or the reader's ends at the first flag or width, or at %s.
-- Assumes nothing.
use Prim.Native.Char.{code}
use Prim.Native.Nat.{ℕ, zero, suc, ◌+◌, ◌-◌, ◌≤◌, ◌<◌}
use mathlib.Core.Bool.{Bool, true, false, cond, ◌||◌, ◌&&◌, and-eq-true_iff, and-false}
use mathlib.Core.List.{List, [], ◌∷◌, ◌++◌, map, append_assoc}
use mathlib.Core.Path.{◌≡◌, refl, sym, ap, ◌∙◌, fun_ext}
use native.Mathlib.Decide.{dec_le}
use native.Mathlib.Nat.{zero-add, le_of_suc-le-suc, lt_of_not-le}
use native.Mathlib.Omega.{arith}
use borrow.Author.Tests.{lt-leb, le-leb, le-ltb, ne_eqb, eqb-true}
use lib.Dec.{T, eqb}
use lib.ListN.{length, get_or, drop, length-append}
use lib.Seq.{get_or-append_seam}
use Rattle.laws.specs.Lists.{every}
use Rattle.laws.proofs.Cases.{either, picked, clash}
use Rattle.laws.proofs.Table.{at}
use Rattle.text.specs.Digits.{is_digit, digit_run, decimal}
use Rattle.conversions.specs.Conversions.{Composite, among, is_conversion, composites, format_of, own_format}
use Rattle.conversions.specs.Conversions.{computes as rows-compute}
use Rattle.conversions.specs.Pieces.{unstyled, letter, piece, conversion, flags, flag_run, width_run}
use Rattle.format.specs.Opening.{Ended, Opening, conversion_at}
use Rattle.conversions.specs.Pieces.{is_unstyled, takes_style, with_style, is_read, to_read, styled}
use Rattle.format.specs.Opening.{signed, piece_of}
use Rattle.format.specs.Opening.{nothing, before, composed, acted, sign_at}
use Rattle.format.specs.Opening.{open_from, composite_to, open_to, opening, longest, most_elements, is_byte, letter_of, after_sign}
use Rattle.conversions.specs.Pieces.{style_from}
use Rattle.format.specs.Opening.{is_taken, is_element, elements_in, entry_place, computes}
use Rattle.format.specs.Opening.Ended.{Whole, BadAt}
use Rattle.conversions.specs.declared.following.Act.{Act}
use Rattle.conversions.specs.declared.following.Act.TheVariants.{Byte, Convert, Open, Refuse}
use Rattle.conversions.specs.declared.following.Piece.{Piece}
use Rattle.format.specs.declared.opening.Side.{Side}
use Rattle.format.specs.declared.opening.Side.TheVariants.{Writer, Reader}
use Rattle.conversions.specs.declared.following.Style.{Style}
use Rattle.format.proofs.Bound.{bound}
use Rattle.format.proofs.Elements.{letter_below, elements, element_at}
use Rattle.format.proofs.Entry.{not_read as unread}
use Rattle.conversions.proofs.Letters.{among_past}
use Rattle.format.proofs.Pieces.{Unstyled, conversion_unstyled, Follows, follows}
use Rattle.conversions.proofs.Styles.{flag_run_lem, width_run_lem}
use Rattle.std.specs.Prelude.{None, Option, Some, ℕ}

-- ---- a byte that begins a flag or a width begins no conversion

abbrev begins : ℕ → Bool
begins b = among b flags || is_digit b

abbrev refuses : Act → Bool
refuses (Byte b) = false
refuses (Convert c y) = false
refuses (Open c) = false
refuses Refuse = true

is_refused : (a : Act) → T (refuses a) → a ≡ Refuse
is_refused (Byte b) t = absurd t
is_refused (Convert c y) t = absurd t
is_refused (Open c) t = absurd t
is_refused Refuse t = refl

begins_past : (b : ℕ) → 128 ≤ b → begins b ≡ false
unfolding is_digit
begins_past b h = rw (among_past 128 flags (unfold rows-compute flags in tt) b h, le-leb 48 b (omega arith), lt-leb b 57 (omega arith))

begins_none : (b : ℕ) (s : List ℕ) → begins b ≡ true → (conversion (b ∷ s)).act ≡ Refuse
begins_none b s e =
    elim (dec_le 128 b) [
      | yes h ↦ let f = begins_past b h in clash (cc)
      | no h ↦
          let test : ℕ → Bool = λ k. cond (begins k) (refuses (conversion (k ∷ s)).act) true in
          is_refused (conversion (b ∷ s)).act (rw e at (at test 128 (unfold rows-compute computes in tt) b (lt_of_not-le h)))
    ]

-- ---- what stands first

-- what the reader takes: no flag, no width, and no %s
abbrev reads : ℕ → Style → Bool
reads c y = is_unstyled y && is_read c

-- The writer's and the reader's: the same; refused by both; or a conversion that the reader refuses.
data Pieces (w r : Piece) : Type 0 where
  same : w ≡ r → Pieces w r
  neither : w.act ≡ Refuse → r.act ≡ Refuse → Pieces w r
  writer : (c : ℕ) (y : Style) → reads c y ≡ false → is_conversion c ≡ true → w.act ≡ Convert c y → r.act ≡ Refuse → Pieces w r

no_style : (a : Act) → Unstyled a → with_style unstyled a ≡ a
unfolding with_style is_unstyled takes_style
no_style (Byte b) u = refl
no_style (Convert c x) u = rw u.1
no_style (Open c) u = refl
no_style Refuse u = refl

-- after a % stands a byte that begins neither flag nor width
module _ (b : ℕ) (s : List ℕ) where
  no_flag : among b flags ≡ false → flag_run (b ∷ s) ≡ []
  unfolding flag_run
  no_flag e = rw e

  no_width : is_digit b ≡ false → width_run (b ∷ s) ≡ []
  unfolding width_run digit_run
  no_width d = rw d (picked (λ (x : List ℕ). x ≡ []) (eqb b (code "0")) refl refl)

  unmarked : begins b ≡ false → styled (b ∷ s) ≡ conversion (b ∷ s)
  unfolding styled style_from decimal
  unmarked e =
      let p = conversion (b ∷ s) in
      let f = no_flag (neither-of (among b flags) (is_digit b) e).0 in
      let w = no_width (neither-of (among b flags) (is_digit b) e).1 in
      rw (f, w, no_style p.act (conversion_unstyled (b ∷ s)), zero-add p.length)
    where
      neither-of : (x y : Bool) → (x || y) ≡ false → (x ≡ false) × (y ≡ false)
      neither-of false y e = (refl, e)
      neither-of true y e = clash (cc)

-- a flag or a width stands before what the reader refuses
marked_with : (y : Style) (w r : Piece) → is_unstyled y ≡ false → r.act ≡ Refuse → (a : Act) → Unstyled a → w.act ≡ with_style y a
    → Pieces w r
unfolding with_style
marked_with y w r e q (Byte b) u h = neither (rw e at h) q
marked_with y w r e q (Convert c x) u h =
    either (λ z. w.act ≡ z → Pieces w r) (takes_style y c) (λ _ k. writer c y (rw e) u.0 k q)
    (λ _ k. neither k q)
    h
marked_with y w r e q (Open c) u h = neither (rw e at h) q
marked_with y w r e q Refuse u h = neither h q

-- what stands after a %, where the reader refuses it
module _ (s : List ℕ) (q : (conversion s).act ≡ Refuse) where
  abbrev flag : List ℕ
  flag = flag_run s

  abbrev width : List ℕ
  width = width_run (drop (length flag) s)

  abbrev rest : List ℕ
  rest = drop (length flag + length width) s

  marked : Pieces (styled s) (conversion s)
  unfolding styled is_unstyled style_from with_style
  marked = go (is_unstyled (style_from flag width)) refl
    where
      go : (t : Bool) → is_unstyled (style_from flag width) ≡ t → Pieces (styled s) (conversion s)
      go true e =
          let u = (and-eq-true_iff (eqb (get_or flag 0 0) 0) (eqb (decimal 0 width) 0)).0 e in
          let n : length flag ≡ 0 = (flag_run_lem s).none (eqb-true (get_or flag 0 0) 0 u.0) in
          let m : length width ≡ 0 = (width_run_lem (drop (length flag) s)).none (eqb-true (decimal 0 width) 0 u.1) in
          neither (rw (m, n, q)) q
      go false e = marked_with (style_from flag width) (styled s) (conversion s) e q (conversion rest).act (conversion_unstyled rest) refl

by_styles : (s : List ℕ) → Pieces (styled s) (conversion s)
unfolding styled flag_run width_run style_from with_style conversion
by_styles [] = same refl
by_styles (b ∷ s) = go (begins b) refl
  where
    go : (t : Bool) → begins b ≡ t → Pieces (styled (b ∷ s)) (conversion (b ∷ s))
    go true e = marked (b ∷ s) (begins_none b s e)
    go false e = same (unmarked b s e)

-- of what stands without flag and width the reader takes all but %s
module _ (w : Piece) (n : ℕ) where
  all_but : (a : Act) → Unstyled a → w ≡ piece a n → Pieces w (piece (to_read a) n)
  unfolding to_read
  all_but (Byte b) u e = same e
  all_but (Convert c y) u e =
      either (λ a. Pieces w (piece a n)) (is_read c) (λ t. same e)
      (λ t. writer c y (unfold is_unstyled in rw (u.1, t)) u.0 (ap (λ (p : Piece). p.act) e) refl)
  all_but (Open c) u e = same e
  all_but Refuse u e = same e

  refused-still : (a : Act) → a ≡ Refuse → to_read a ≡ Refuse
  unfolding to_read
  refused-still a e = rw e

pieces : (s : List ℕ) → Pieces (styled s) (signed Reader s)
unfolding signed
pieces s = go (by_styles s)
  where
    p : Piece
    p = conversion s

    go : Pieces (styled s) (conversion s) → Pieces (styled s) (piece (to_read (conversion s).act) (conversion s).length)
    go (same e) = all_but (styled s) (conversion s).length (conversion s).act (conversion_unstyled s) e
    go (neither a b) = neither a (refused-still (styled s) 0 (conversion s).act b)
    go (writer c y u k a b) = writer c y u k a (refused-still (styled s) 0 (conversion s).act b)

-- right after a %: nothing, or a letter that is read, alike for both sides
pub nothing_after : (side : Side) (s : List ℕ) → length s ≡ 0 → piece Refuse 1 ≡ signed side s
unfolding signed styled flag_run width_run style_from with_style to_read conversion
nothing_after Writer [] h = refl
nothing_after Reader [] h = refl
nothing_after side (b ∷ s) h = absurd (omega arith)

letter_alone : (b : ℕ) (s : List ℕ) → (letter b ≡ Refuse → ⊥) → conversion (b ∷ s) ≡ piece (letter b) 2
unfolding conversion
letter_alone b s n =
    let refused : (c : ℕ) → letter c ≡ Refuse → eqb b c ≡ false = λ c e. ne_eqb b c (λ q. n (ap letter q ∙ e)) in
    rw (refused (code "E") (unfold letter rows-compute in refl), refused (code "O") (unfold letter rows-compute in refl))

-- what is read is the letter itself
read_same : (a : Act) → (to_read a ≡ Refuse → ⊥) → to_read a ≡ a
unfolding to_read
read_same (Byte b) n = refl
read_same (Convert c y) n = either (λ x. (x ≡ Refuse → ⊥) → x ≡ Convert c y) (is_read c) (λ _ m. refl) (λ _ m. absurd (m refl)) n
read_same (Open c) n = refl
read_same Refuse n = refl

pub letter_after : (side : Side) (s : List ℕ) {a : Act} → (length s ≡ 0 → ⊥) → a ≡ to_read (letter (get_or s 0 0)) → (a ≡ Refuse → ⊥)
    → piece a 2 ≡ signed side s
unfolding signed
letter_after side [] h e n = absurd (h refl)
letter_after Reader (b ∷ s) h e n =
    let r = read_same (letter b) (λ q. n (e ∙ q)) in
    rw (e, letter_alone b s (λ q. n (e ∙ r ∙ q)))
letter_after Writer (b ∷ s) h e n =
    let r = read_same (letter b) (λ q. n (e ∙ q)) in
    let alone = letter_alone b s (λ q. n (e ∙ r ∙ q)) in
    rw (e, r) (sym (go (begins b) refl r alone))
  where
    go : (t : Bool) → begins b ≡ t → to_read (letter b) ≡ letter b → conversion (b ∷ s) ≡ piece (letter b) 2
        → styled (b ∷ s) ≡ piece (letter b) 2
    go true q r alone = absurd (n (e ∙ r ∙ (sym (ap (λ (p : Piece). p.act) alone) ∙ begins_none b s q)))
    go false q r alone = unmarked b s q ∙ alone

first : (b : ℕ) (s : List ℕ) → Pieces (piece_of Writer b s) (piece_of Reader b s)
unfolding piece_of signed
first b s = go (eqb b (code "%")) refl
  where
    go : (t : Bool) → eqb b (code "%") ≡ t → Pieces (piece_of Writer b s) (piece_of Reader b s)
    go true e = rw e (pieces s)
    go false e = rw e (same refl)

-- ---- a composite is opened alike for both

-- what stands first at each place of a format, for a side
unfoldable firsts : Side → List ℕ → List Piece
firsts d [] = []
firsts d (b ∷ s) = piece_of d b s ∷ firsts d s

own_alike : (f g : List ℕ → List Piece) (c : ℕ) (xs : List Composite)
    → map (λ (x : Composite). f x.format) xs ≡ map (λ (x : Composite). g x.format) xs → f [] ≡ g []
    → f (format_of c xs) ≡ g (format_of c xs)
unfolding format_of
own_alike f g c [] e n = n
own_alike f g c (x ∷ xs) e n =
    let more : map (λ (x : Composite). f x.format) xs ≡ map (λ (x : Composite). g x.format) xs = cc in
    picked (λ (s : List ℕ). f s ≡ g s) (eqb c x.letter) (cc) (own_alike f g c xs more n)

-- a composite's own format has neither flag nor width nor %s: one test over the table
own_firsts : (c : ℕ) → firsts Writer (own_format c) ≡ firsts Reader (own_format c)
unfolding own_format
own_firsts c =
    own_alike (firsts Writer) (firsts Reader) c composites (unfold rows-compute computes firsts in refl) (unfold firsts in refl)

-- where the same stands first at each place, the same is opened
open_alike : (inner : ℕ → ℕ → Opening) (g : Option ℕ) (i past : ℕ) (s : List ℕ) → firsts Writer s ≡ firsts Reader s
    → open_from Writer inner g i past s ≡ open_from Reader inner g i past s
unfolding open_from firsts
open_alike inner g i past [] e = refl
open_alike inner g i (suc past) (b ∷ s) e =
    let more : firsts Writer s ≡ firsts Reader s = cc in
    open_alike inner g (i + 1) past s more
open_alike inner g i zero (b ∷ s) e =
    let more : firsts Writer s ≡ firsts Reader s = cc in
    let p : piece_of Writer b s ≡ piece_of Reader b s = cc in
    rw (p, open_alike inner g (i + 1) ((piece_of Reader b s).length - 1) s more)

any_depth : (depth sign c : ℕ) → composite_to Writer depth sign c ≡ composite_to Reader depth sign c
unfolding composite_to
any_depth zero sign c = refl
any_depth (suc depth) sign c =
    let inner : composite_to Writer depth ≡ composite_to Reader depth = fun_ext (λ p. fun_ext (λ l. any_depth depth p l)) in
    ap (λ (f : ℕ → ℕ → Opening). open_from Writer f (Some sign) 0 0 (own_format c)) inner
    ∙ open_alike (composite_to Reader depth) (Some sign) 0 0 (own_format c) (own_firsts c)

pub composites_alike : (sign c : ℕ) → composite_to Writer 2 sign c ≡ composite_to Reader 2 sign c
composites_alike sign c = any_depth 2 sign c

-- ---- the whole format

-- the reader's opening ends at a conversion that it does not take, whose % is followed by a byte within n, and the writer's goes on
pub record Apart (n : ℕ) (w r : Opening) : Type 0 where
  pub sign : ℕ
  pub style : Style
  pub letter : ℕ
  pub more : List ℕ
  pub within : sign + 1 < n
  pub unread : reads letter style ≡ false
  pub known : is_conversion letter ≡ true
  pub width : style.width ≤ 99
  pub ended : r.ended ≡ BadAt sign
  pub elements : w.elements ≡ r.elements ++ (conversion_at sign style letter ∷ more)

pub data Sides (n : ℕ) (w r : Opening) : Type 0 where
  together : w ≡ r → Sides n w r
  apart : Apart n w r → Sides n w r

sides_before : (n : ℕ) (e : List ℕ) {w r : Opening} → Sides n w r → Sides n (before e w) (before e r)
unfolding before
sides_before n e (together q) = together (ap (before e) q)
sides_before n e {w} {r} (apart a) =
    apart (record {
      sign = a.sign;
      style = a.style;
      letter = a.letter;
      more = a.more;
      within = a.within;
      unread = a.unread;
      known = a.known;
      width = a.width;
      ended = a.ended;
      elements = rw append_assoc (ap (λ (x : List ℕ). e ++ x) a.elements);
    })

sides_composed : (n : ℕ) (e : List ℕ) (d : Ended) {w r : Opening} → Sides n w r
    → Sides n (composed (record { elements = e; ended = d }) w) (composed (record { elements = e; ended = d }) r)
unfolding composed
sides_composed n e Whole h = sides_before n e h
sides_composed n e (BadAt p) h = together refl

acted_sides : (n sign : ℕ) {w r : Opening} → Sides n w r → (a : Act)
    → Sides n (acted (composite_to Writer 2) sign w a) (acted (composite_to Reader 2) sign r a)
unfolding acted
acted_sides n sign h (Byte b) = sides_before n (b ∷ []) h
acted_sides n sign h (Convert c y) = sides_before n (conversion_at sign y c ∷ []) h
acted_sides n sign h (Open c) =
    let o = composite_to Reader 2 sign c in
    rw (composites_alike sign c) (sides_composed n o.elements o.ended h)
acted_sides n sign h Refuse = together refl

-- what stands first, whose % is at `sign` with m bytes after it, before the rest, which begins where it ends
turn : (n m sign : ℕ) → (1 ≤ m → sign + 1 < n) → (w r : ℕ → Opening) → ((k : ℕ) → Sides n (w k) (r k)) → (p q : Piece)
    → Follows m p.length p.act → Pieces p q
    → Sides n (acted (composite_to Writer 2) sign (w (p.length - 1)) p.act)
    (acted (composite_to Reader 2) sign (r (q.length - 1)) q.act)
unfolding acted before nothing
turn n m sign l w r h p q f (same e) = rw e (acted_sides n sign (h (q.length - 1)) q.act)
turn n m sign l w r h p q f (neither a b) = rw (a, b) (together refl)
turn n m sign l w r h p q f (writer c y u k a b) =
    let v : Follows m p.length (Convert c y) = rw a at f in
    rw (a, b)
    (apart (record {
      sign = sign;
      style = y;
      letter = c;
      more = (w (p.length - 1)).elements;
      within = l v.0;
      unread = u;
      known = k;
      width = v.2.width;
      ended = refl;
      elements = refl;
    }))

open_sides : (n : ℕ) (s : List ℕ) (i past : ℕ) → i + length s ≤ n
    → Sides n (open_from Writer (composite_to Writer 2) None i past s) (open_from Reader (composite_to Reader 2) None i past s)
unfolding open_from sign_at
open_sides n [] i past h = together refl
open_sides n (b ∷ s) i (suc past) h = open_sides n s (i + 1) past (omega arith)
open_sides n (b ∷ s) i zero h =
    turn n (length s) i (λ m. omega arith) (λ k. open_from Writer (composite_to Writer 2) None (i + 1) k s)
    (λ k. open_from Reader (composite_to Reader 2) None (i + 1) k s)
    (λ k. open_sides n s (i + 1) k (omega arith))
    (piece_of Writer b s)
    (piece_of Reader b s)
    (follows Writer b s)
    (first b s)

pub sides : (f : List ℕ) → Sides (length f) (opening Writer f) (opening Reader f)
unfolding opening open_to
sides f = open_sides (length f) f 0 0 (omega arith)

-- a format that opens whole for the reader opens alike for the writer
pub same_opening : (f : List ℕ) → (opening Reader f).ended ≡ Whole → opening Writer f ≡ opening Reader f
same_opening f e = go (sides f)
  where
    go : Sides (length f) (opening Writer f) (opening Reader f) → opening Writer f ≡ opening Reader f
    go (together q) = q
    go (apart a) = let g = a.ended in clash (cc)

-- ---- the elements where the two go apart

-- elements before an entry that is none are all that count
counted_before : (side : Side) (n : ℕ) (es : List ℕ) (e : ℕ) (more : List ℕ) → every (is_element side) es ≡ true
    → is_element side e ≡ false → length es < n → elements_in side n (es ++ (e ∷ more)) ≡ length es
unfolding elements_in every
counted_before side zero es e more t f h = absurd (omega arith)
counted_before side (suc n) [] e more t f h = rw f
counted_before side (suc n) (x ∷ es) e more t f h =
    let u = (and-eq-true_iff (is_element side x) (every (is_element side) es)).0 t in
    rw u.0 (ap suc (counted_before side n es e more u.1 f (le_of_suc-le-suc h)))

-- a conversion that the reader does not take is no element to it
module _ (sign c : ℕ) (y : Style) (h : sign + 1 < longest) (k : is_conversion c ≡ true) (w : y.width ≤ 99) (u : reads c y ≡ false) where
  abbrev element : ℕ
  element = conversion_at sign y c

  sign_of : after_sign element ≡ sign + 1
  sign_of = omega (arith, letter_below c k)

  letter-of : letter_of element ≡ c
  letter-of = omega (arith, letter_below c k)

  -- below 2^18 it has neither flag nor width, and so its letter is not read
  small : element < 262144 → is_read c ≡ false
  unfolding is_unstyled
  small l =
      let f : y.flag ≡ 0 = omega arith in
      let d : y.width ≡ 0 = omega arith in
      rw (f, d) at u

  no_element : is_element Reader element ≡ false
  unfolding is_element is_taken
  no_element =
      elim (dec_le 262144 element) [
        | yes l ↦ unread element l
        | no l ↦ simp (le-ltb element 256 (omega arith), letter-of, small (lt_of_not-le l), and-false)
      ]

-- a format of bytes that is not too long
module _ (f : List ℕ) (short : length f ≤ longest) (bytes : every is_byte f ≡ true)
    (a : Apart (length f) (opening Writer f) (opening Reader f)) where
  -- the writer's elements, the reader's before the first that the reader does not take, and that one
  abbrev all : List ℕ
  all = (opening Writer f).elements

  abbrev first-ones : List ℕ
  first-ones = (opening Reader f).elements

  abbrev styled-one : ℕ
  styled-one = conversion_at a.sign a.style a.letter

  in-time : a.sign + 1 < longest
  in-time = omega (arith, a.within)

  not_read : is_element Reader styled-one ≡ false
  not_read = no_element a.sign a.letter a.style in-time a.known a.width a.unread

  stands-there : get_or all (length first-ones) 0 ≡ styled-one
  stands-there = rw a.elements (get_or-append_seam first-ones styled-one a.more 0)

  -- to the reader, only the elements before it count, and its place is the offset of its %
  pub apart_longer : length first-ones < length all
  apart_longer = omega (arith, ap length a.elements, length-append first-ones (styled-one ∷ a.more))

  pub apart_counted : elements_in Reader most_elements all ≡ length first-ones
  apart_counted =
      rw a.elements
      (counted_before Reader most_elements first-ones styled-one a.more (elements Reader f short bytes) not_read
      (omega (arith, apart_longer, bound Writer f)))

  pub apart_place : entry_place all (length first-ones) ≡ a.sign
  unfolding entry_place
  apart_place =
      let t = rw stands-there at (element_at Writer f short bytes (length first-ones) apart_longer) in
      let p = sign_of a.sign a.letter a.style in-time a.known a.width a.unread in
      rw (stands-there, t, not_read) (omega (arith, p))

-- for the code, which looks at the letter right after % first
pub ruleset first_looks = (nothing_after, letter_after)
