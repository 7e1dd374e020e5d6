-- A conversion with a flag and a width: how its format opens, what it writes, and who refuses it.
-- Assumes nothing.
use Prim.Native.Char.{code}
use Prim.Native.Nat.{ℕ, zero, suc, max, ◌+◌, ◌-◌, ◌*◌, ◌/◌, ◌%◌, ◌≤◌, ◌<◌}
use mathlib.Core.Bool.{Bool, true, false, not, cond, ◌||◌, ◌&&◌, and-eq-true_iff}
use mathlib.Core.List.{List, [], ◌∷◌, ◌++◌, map, append-nil}
use mathlib.Core.Logic.{◌⊎◌, inl, inr, ⊎_elim}
use mathlib.Core.Path.{◌≡◌, refl, sym, ap, ◌∙◌}
use native.Mathlib.Decide.{ℕ_discrete}
use native.Mathlib.Omega.{arith}
use borrow.Author.Tests.{le-leb, le-ltb, leb-true, ltb-true, eqb-true, ne_eqb}
use lib.Dec.{eqb, leb, ltb}
use lib.ListN.{length, get_or, drop, length-append}
use lib.Seq.{drop-append_seam, drop-append-add}
use Rattle.laws.specs.Bytes.{bytes}
use Rattle.laws.specs.Lists.{every, range}
use Rattle.laws.proofs.Cases.{either, picked, clash}
use Rattle.laws.proofs.Table.{same_at}
use Rattle.names.specs.Case.{fold, capital, cased}
use Rattle.text.specs.Fill.{fill}
use Rattle.names.specs.Names.{short}
use Rattle.names.specs.Naming.{name_for}
use Rattle.names.proofs.Cased.{capital_fold}
use Rattle.text.proofs.Fill.{fill_below}
use Rattle.text.specs.Digits.{digits, plain, is_digit, digit_run, decimal}
use Rattle.conversions.specs.Conversions as conversions
use Rattle.conversions.specs.Conversions.{among, conversion_of, is_name, is_number}
use Rattle.conversions.specs.Pieces.{flags, flag_run, width_run, conversion, letter, with_style, styled, piece}
use Rattle.format.specs.Opening.{Opening, Whole, BadAt, opening}
use Rattle.conversions.specs.Pieces.{unstyled, is_unstyled, takes_style, to_read}
use Rattle.format.specs.Opening.{longest, before, conversion_at}
use Rattle.format.specs.Opening.{acted, nothing, open_from}
use Rattle.conversions.specs.Pieces.{style_from}
use Rattle.format.specs.Opening.{composite_to, open_to, signed, piece_of, sign_at}
use Rattle.conversions.specs.declared.conversions.Conversion.{Conversion}
use Rattle.conversions.specs.declared.conversions.Form.{Form}
use Rattle.conversions.specs.declared.conversions.Form.TheVariants.{Zeros, Blanks, FromSunday, Short, Full, Lower, Zone, Seconds, Unknown}
use Rattle.format.specs.declared.opening.Side.{Side}
use Rattle.format.specs.declared.opening.Side.TheVariants.{Writer, Reader}
use Rattle.conversions.specs.declared.following.Act.TheVariants.{Convert, Refuse}
use Rattle.conversions.specs.declared.following.Style.{Style}
use Rattle.values.specs.Moments.{moment_of}
use Rattle.values.specs.Values.{value}
use Rattle.values.specs.declared.Moment.{Moment}
use Rattle.converted.specs.Converted as styles
use Rattle.strftime.specs.Writing as writer
use Rattle.converted.specs.Converted.{formed, converted}
use Rattle.strftime.specs.Writing.{element, text, put, is_seconds, lacking, by_format, for_moment, for_fields, writing}
use Rattle.strftime.specs.declared.Fields.{Fields}
use Rattle.strftime.proofs.Complete.{puts_text}
use Rattle.demands.proofs.Seconds.{no_seconds}
use Rattle.converted.proofs.Lengths.{by_form}
use Rattle.strftime.proofs.Lengths.{element_styled}
use Rattle.strptime.specs.Answers as reader
use Rattle.strptime.specs.Answers.{reading}
use Rattle.demands.specs.Columns.{Columns, Writes, numbers, blanks, names, others, asked, format, digits_of, column}
use Rattle.demands.specs.Columns.{belongs}
use Rattle.std.specs.Prelude.{None, Ok, Option, ℕ}

not_eq_true : (t : Bool) → not t ≡ true → t ≡ false
not_eq_true true e = clash (cc)
not_eq_true false e = refl

-- what holds of all of some bytes holds of one among them
among_passes : (p : ℕ → Bool) (s : List ℕ) → every p s ≡ true → (c : ℕ) → among c s ≡ true → p c ≡ true
unfolding among every
among_passes p [] e c a = clash (cc)
among_passes p (x ∷ s) e c b =
    let u = (and-eq-true_iff (p x) (every p s)).0 e in
    either (λ (t : Bool). t ≡ true → p c ≡ true) (eqb c x) (λ q _. rw (eqb-true c x q) u.0) (λ _ a. among_passes p s u.1 c a) b

-- and what agrees on all of them agrees on it
among_same : {A : Type 0} (f g : ℕ → A) (s : List ℕ) → map f s ≡ map g s → (c : ℕ) → among c s ≡ true → f c ≡ g c
unfolding among
among_same f g [] e c a = clash (cc)
among_same {A} f g (x ∷ s) e c b =
    either (λ (t : Bool). t ≡ true → f c ≡ g c) (eqb c x)
    (λ q _. rw (eqb-true c x q) (ap (λ (l : List A). get_or l 0 (f x)) e))
    (λ _ a. among_same f g s (ap (λ (l : List A). drop 1 l) e) c a)
    b

-- ---- the bytes of the format

-- a letter that is no digit, no flag and neither E nor O
abbrev is_letter : ℕ → Bool
is_letter c = not (is_digit c) && (not (among c flags) && (not (eqb c (code "E")) && (not (eqb c (code "O")) && not (eqb c (code "0")))))

abbrev flag_bytes : ℕ → List ℕ
flag_bytes f = cond (eqb f 0) [] (f ∷ [])

record Letter (c : ℕ) : Type 0 where
  digit : is_digit c ≡ false
  flag : among c flags ≡ false
  e : eqb c (code "E") ≡ false
  o : eqb c (code "O") ≡ false
  zero : eqb c (code "0") ≡ false

module _ (w : ℕ) (h : w ≤ 99) where
  decimal-of : decimal 0 (asked w) ≡ w
  decimal-of = same_at (λ j. decimal 0 (asked j)) (λ j. j) 100 0 computed w (omega arith) (omega arith)
    where
      computed : map (λ j. decimal 0 (asked j)) (range 0 100) ≡ map (λ j. j) (range 0 100)
      computed = unfold asked decimal digits plain range in refl

  -- digits are no flags, and no letters
  module _ (some : 1 ≤ w) (c : ℕ) where
    no_flag : flag_run (asked w ++ (c ∷ [])) ≡ []
    no_flag = same_at (λ j. flag_run (asked j ++ (c ∷ []))) (λ j. []) 99 1 computed w some (omega arith)
      where
        computed : map (λ j. flag_run (asked j ++ (c ∷ []))) (range 1 99) ≡ map (λ j. []) (range 1 99)
        computed = unfold asked digits plain range flag_run flags conversions.computes in refl

    no_letter : (conversion (asked w ++ (c ∷ []))).act ≡ Refuse
    no_letter = same_at (λ j. (conversion (asked j ++ (c ∷ []))).act) (λ j. Refuse) 99 1 computed w some (omega arith)
      where
        computed : map (λ j. (conversion (asked j ++ (c ∷ []))).act) (range 1 99) ≡ map (λ j. Refuse) (range 1 99)
        computed = unfold asked digits plain range conversion letter conversions.computes in refl

    width_some : is_digit c ≡ false → width_run (asked w ++ (c ∷ [])) ≡ asked w
    width_some d = same_at (λ j. width_run (asked j ++ (c ∷ []))) asked 99 1 computed w some (omega arith)
      where
        computed : map (λ j. width_run (asked j ++ (c ∷ []))) (range 1 99) ≡ map asked (range 1 99)
        computed = unfold asked digits plain range width_run digit_run in rw d (unfold is_digit in refl)

-- after a flag no other is taken, and where there is none a width or a letter is none
no_flag_first : (w c : ℕ) → w ≤ 99 → Letter c → flag_run (asked w ++ (c ∷ [])) ≡ []
no_flag_first zero c h l = unfold asked flag_run in rw l.flag
no_flag_first (suc w) c h l = no_flag (suc w) h (omega arith) c

width_first : (w c : ℕ) → w ≤ 99 → Letter c → width_run (asked w ++ (c ∷ [])) ≡ asked w
width_first zero c h l = unfold asked width_run digit_run in rw (l.zero, l.digit)
width_first (suc w) c h l = width_some (suc w) h (omega arith) c l.digit

is_flag : (f : ℕ) → among f (0 ∷ flags) ≡ true → eqb f 0 ≡ false → among f flags ≡ true
unfolding among
is_flag f k z = rw z at k

-- the bytes of the element before are passed
passed : (side : Side) (inner : ℕ → ℕ → Opening) (g : Option ℕ) (s : List ℕ) (i n : ℕ) → n ≡ length s
    → open_from side inner g i n s ≡ nothing Whole
unfolding open_from
passed side inner g [] i n e = refl
passed side inner g (b ∷ s) i zero e = absurd (omega arith)
passed side inner g (b ∷ s) i (suc n) e = passed side inner g s (i + 1) n (omega arith)

-- no flag is a letter
unlettered : ℕ → Bool
unlettered f = not (eqb f (code "E")) && not (eqb f (code "O"))

flag_refused : (f : ℕ) (s : List ℕ) → among f flags ≡ true → (conversion (f ∷ s)).act ≡ Refuse
unfolding conversion unlettered
flag_refused f s a =
    let u = (and-eq-true_iff (not (eqb f (code "E"))) (not (eqb f (code "O")))).0
    (among_passes unlettered flags (unfold flags every conversions.computes in refl) f a) in
    rw (not_eq_true (eqb f (code "E")) u.0, not_eq_true (eqb f (code "O")) u.1)
    (among_same letter (λ _. Refuse) flags (unfold flags letter conversions.computes in refl) f a)

some : (w : ℕ) → eqb w 0 ≡ false → 1 ≤ w
some zero e = clash (cc)
some (suc w) e = omega arith

-- the format of a flag, a width and a letter
module _ (f w c : ℕ) (known : among f (0 ∷ flags) ≡ true) (h : w ≤ 99) (l : Letter c) where
  abbrev rest : List ℕ
  rest = asked w ++ (c ∷ [])

  flag-of : flag_run (flag_bytes f ++ rest) ≡ flag_bytes f
  flag-of =
      either (λ (x : List ℕ). flag_run (x ++ rest) ≡ x) (eqb f 0) (λ z. no_flag_first w c h l)
      (λ z. unfold flag_run in rw (is_flag f known z))

  flag_is : get_or (flag_bytes f) 0 0 ≡ f
  flag_is = either (λ (x : List ℕ). get_or x 0 0 ≡ f) (eqb f 0) (λ z. sym (eqb-true f 0 z)) (λ z. refl)

  letter-of : conversion (drop (length (flag_bytes f) + length (asked w)) (flag_bytes f ++ rest)) ≡ piece (letter c) 2
  letter-of =
      rw (drop-append-add (flag_bytes f) rest (length (asked w)), drop-append_seam (asked w) (c ∷ []))
      (unfold conversion in rw (l.e, l.o))

  styled-of : styled (flag_bytes f ++ rest)
      ≡ piece (with_style (record { flag = f; width = w }) (letter c)) (length (flag_bytes f) + length (asked w) + 2)
  unfolding styled style_from
  styled-of =
      rw (flag-of, drop-append_seam (flag_bytes f) rest, width_first w c h l, letter-of, flag_is, decimal-of w h)

  -- it opens to what its letter stands for, with the flag and the width
  opens : opening Writer (format f w c)
      ≡ acted (composite_to Writer 2) 0 (nothing Whole) (with_style (record { flag = f; width = w }) (letter c))
  unfolding opening open_to open_from format piece_of signed sign_at
  opens =
      let n = length (flag_bytes f) + length (asked w) + 2 in
      let e : n - 1 ≡ length (flag_bytes f ++ rest) =
      rw (length-append (flag_bytes f) rest, length-append (asked w) (c ∷ [])) (omega arith) in
      rw (styled-of, passed Writer (composite_to Writer 2) None (flag_bytes f ++ rest) 1 (n - 1) e)

  -- and not at all for the reader
  refused-first : (eqb f 0 && eqb w 0) ≡ false → (conversion (flag_bytes f ++ rest)).act ≡ Refuse
  refused-first n =
      either (λ (x : List ℕ). (conversion (x ++ rest)).act ≡ Refuse) (eqb f 0)
      (λ z. no_letter w h (some w (rw z at n)) c)
      (λ z. flag_refused f rest (is_flag f known z))

  unread : (eqb f 0 && eqb w 0) ≡ false → opening Reader (format f w c) ≡ nothing (BadAt 0)
  unfolding opening open_to open_from format piece_of signed sign_at acted
  unread n = unfold to_read in rw (refused-first n)

-- ---- the letters

-- all that stand after %
abbrev letters : List ℕ
letters = numbers ++ (names ++ others)

is_letter_lem : (c : ℕ) → among c letters ≡ true → Letter c
is_letter_lem c a =
    let t = among_passes is_letter letters (unfold numbers names others flags is_digit every conversions.computes in refl) c a in
    let u = (and-eq-true_iff (not (is_digit c)) _).0 t in
    let v = (and-eq-true_iff (not (among c flags)) _).0 u.1 in
    let x = (and-eq-true_iff (not (eqb c (code "E"))) _).0 v.1 in
    let y = (and-eq-true_iff (not (eqb c (code "O"))) (not (eqb c (code "0")))).0 x.1 in
    record {
      digit = not_eq_true _ u.0;
      flag = not_eq_true _ v.0;
      e = not_eq_true _ x.0;
      o = not_eq_true _ y.0;
      zero = not_eq_true _ y.1;
    }

-- those of numbers and of names are conversions
converts : (c : ℕ) → among c (numbers ++ names) ≡ true → letter c ≡ Convert c unstyled
converts =
    among_same letter (λ c. Convert c unstyled) (numbers ++ names) (unfold numbers names letter conversions.computes in refl)

-- the form of a number
form_of : ℕ → Form
form_of c = cond (eqb c (code "w")) FromSunday (cond (among c blanks) Blanks Zeros)

number_form : (c : ℕ) → among c numbers ≡ true → (conversion_of c).form ≡ form_of c
number_form = among_same (λ c. (conversion_of c).form) form_of numbers (unfold numbers blanks form_of conversions.computes in refl)

is_number_lem : (c : ℕ) → is_number (form_of c) ≡ true
unfolding form_of is_number
is_number_lem c =
    let P : Form → Type 0 = λ f. is_number f ≡ true in
    picked P (eqb c (code "w")) refl (picked P (among c blanks) refl refl)

-- names
name_form : (c : ℕ) → among c names ≡ true → is_name (conversion_of c).form ≡ true
name_form = among_passes (λ c. is_name (conversion_of c).form) names (unfold names every conversions.computes in refl)

no_number : (f : Form) → is_name f ≡ true → is_number f ≡ false
unfolding is_name is_number
no_number Zeros e = clash (cc)
no_number Blanks e = clash (cc)
no_number FromSunday e = clash (cc)
no_number (Short t) e = refl
no_number (Full t) e = refl
no_number (Lower t) e = refl
no_number Zone e = clash (cc)
no_number Seconds e = clash (cc)
no_number Unknown e = clash (cc)

-- ---- what is written

flag_short : (f : ℕ) → length (flag_bytes f) ≤ 1
flag_short f = picked (λ (x : List ℕ). length x ≤ 1) (eqb f 0) (omega arith) (omega arith)

asked_short : (w : ℕ) → w ≤ 99 → length (asked w) ≤ 2
asked_short w h = leb-true _ 2 (same_at (λ j. leb (length (asked j)) 2) (λ j. true) 100 0 computed w (omega arith) (omega arith))
  where
    computed : map (λ j. leb (length (asked j)) 2) (range 0 100) ≡ map (λ j. true) (range 0 100)
    computed = unfold asked digits plain range in refl

letter_small : (c : ℕ) → among c letters ≡ true → c < 256
letter_small c a =
    ltb-true c 256 (among_passes (λ b. ltb b 256) letters (unfold numbers names others every conversions.computes in refl) c a)

-- no other letter takes a flag or a width
other_refused : (f w c : ℕ) → among c others ≡ true → (eqb f 0 && eqb w 0) ≡ false
    → with_style (record { flag = f; width = w }) (letter c) ≡ Refuse
other_refused f w c o n =
    among_same (λ b. with_style (record { flag = f; width = w }) (letter b)) (λ b. Refuse) others
    (unfold others letter with_style takes_style is_unstyled conversions.computes in rw (n, none (eqb f 0) (eqb f 94)) refl)
    c o
  where
    none : (p q : Bool) → cond p false (cond q false false) ≡ false
    none true q = refl
    none false true = refl
    none false false = refl

-- by a number, or by a name
abbrev takes : Bool → ℕ → Bool
takes number f = cond (eqb f 0) true (cond (eqb f 94) (not number) number)

takes_is : (z v p n m : Bool) → m ≡ not n → cond (z && v) true (cond z (m || n) (cond p m n)) ≡ cond z true (cond p (not n) n)
takes_is true true p n m e = refl
takes_is true false p true m e = rw e
takes_is true false p false m e = rw e
takes_is false v p n m e = rw e

-- a moment, and a conversion that takes a flag and a width
module _ (t : Fields) (m : Moment) (valid : moment_of t.year t.month t.day t.hour t.minute t.second t.offset ≡ Ok m)
    (f w c : ℕ) (known : among f (0 ∷ flags) ≡ true) (h : w ≤ 99) (a : among c letters ≡ true) where
  abbrev style : Style
  style = record { flag = f; width = w }

  few : length (format f w c) ≤ longest
  unfolding format
  few =
      rw (length-append (flag_bytes f) (asked w ++ (c ∷ [])), length-append (asked w) (c ∷ []))
      (omega (arith, flag_short f, asked_short w h))

  refused-by : (b : List ℕ) → opening Writer (format f w c) ≡ nothing (BadAt 0) → writing (format f w c) t b ≡ writer.refused 3 0 b
  unfolding writing for_fields for_moment by_format nothing
  refused-by b o = rw (le-leb (length (format f w c)) longest few, valid, o)

  -- the element of the conversion writes what the conversion does
  written : text m (conversion_at 0 style c ∷ []) ≡ converted style (conversion_of c) m
  unfolding text
  written =
      let e = conversion_at 0 style c in
      let l = letter_small c a in
      let p : e % 256 ≡ c = omega arith in
      let g : e / 33554432 ≡ f = omega arith in
      let q : e / 262144 ≡ 128 * f + w = omega arith in
      let r : (128 * f + w) % 128 ≡ w = omega arith in
      let n : e / 262144 % 128 ≡ w = rw q r in
      append-nil (element m e) ∙ element_styled m e (omega arith) (ap conversion_of (sym p)) (rw (g, n))

  -- one of a number or of a name, which is no %s
  module _ (u : among c (numbers ++ names) ≡ true) where
    by_flag : {t : Bool} → takes (is_number (conversion_of c).form) f ≡ t → takes_style style c ≡ t
    unfolding takes_style is_unstyled
    by_flag k =
        let n =
        among_same (λ b. is_name (conversion_of b).form) (λ b. not (is_number (conversion_of b).form)) (numbers ++ names)
        (unfold numbers names conversions.computes in refl)
        c u in
        takes_is (eqb f 0) (eqb w 0) (eqb f 94) (is_number (conversion_of c).form) (is_name (conversion_of c).form) n ∙ k

    no_s : is_seconds (conversion_at 0 style c) ≡ false
    unfolding is_seconds
    no_s =
        let e = conversion_at 0 style c in
        let l = letter_small c a in
        let p : e % 256 ≡ c = omega arith in
        let n = among_same (λ b. eqb b 115) (λ b. false) (numbers ++ names) (unfold numbers names conversions.computes in refl) c u in
        rw (le-ltb e 256 (omega arith), p) n

    taken : takes (is_number (conversion_of c).form) f ≡ true → Writes (format f w c) t (converted style (conversion_of c) m)
    taken k b =
        let o : opening Writer (format f w c) ≡ record { elements = conversion_at 0 style c ∷ []; ended = Whole } =
        opens f w c known h (is_letter_lem c a) ∙ unfold with_style acted before nothing in rw (converts c u, by_flag k) in
        let lacks = ap (λ (o : Opening). lacking m.offset o.elements) o ∙ no_seconds m.offset (conversion_at 0 style c) no_s in
        puts_text (format f w c) t b few (ap (λ (o : Opening). o.ended) o) valid lacks
        ∙ ap (λ (x : List ℕ). put x b) (ap (λ (o : Opening). text m o.elements) o ∙ written)

    not_taken : takes (is_number (conversion_of c).form) f ≡ false → (b : List ℕ) → writing (format f w c) t b ≡ writer.refused 3 0 b
    not_taken k b =
        refused-by b (opens f w c known h (is_letter_lem c a) ∙ unfold with_style acted in rw (converts c u, by_flag k))

  other : among c others ≡ true → (eqb f 0 && eqb w 0) ≡ false → (b : List ℕ) → writing (format f w c) t b ≡ writer.refused 3 0 b
  other o n b =
      refused-by b (opens f w c known h (is_letter_lem c a) ∙ unfold acted in rw (other_refused f w c o n))

  unread-by : (eqb f 0 && eqb w 0) ≡ false → (s : List ℕ) → length s ≤ longest → reading (format f w c) s ≡ reader.refused 3 0
  unfolding reader.reading_by reader.unless_long reader.by_format nothing
  unread-by n s l = rw (le-leb (length (format f w c)) longest few, le-leb (length s) longest l, unread f w c known h (is_letter_lem c a) n)

-- ---- numbers

-- the flags of numbers, one by one
flag_cases : (P : ℕ → Type 0) (f : ℕ) → among f (0 ∷ bytes "_-0") ≡ true → P 0 → P 95 → P 45 → P 48 → P f
unfolding among bytes
flag_cases P f e p q r s =
    either (λ (t : Bool). t ≡ true → P f) (eqb f 0) (λ z _. rw (eqb-true f 0 z) p)
    (λ _. either (λ (t : Bool). t ≡ true → P f) (eqb f 95) (λ z _. rw (eqb-true f 95 z) q)
    (λ _. either (λ (t : Bool). t ≡ true → P f) (eqb f 45) (λ z _. rw (eqb-true f 45 z) r)
    (λ _. either (λ (t : Bool). t ≡ true → P f) (eqb f 48) (λ z _. rw (eqb-true f 48 z) s) (λ _ z. clash (cc)))))
    e

-- the column that a number v makes: its digits, filled
abbrev Column : ℕ → ℕ → ℕ → ℕ → ℕ → List ℕ → Type 0
Column f w own width v x =
    let n = max width w in
    x
    ≡ cond (eqb f 45) (plain v)
    (cond (eqb f 95) (fill 32 n (plain v)) (cond (eqb f 48) (fill 48 n (plain v)) (fill own n (plain v))))

filled_by : (f w own width v : ℕ) → among f (0 ∷ bytes "_-0") ≡ true
    → Column f w own width v (styles.number (record { flag = f; width = w }) own width v)
unfolding styles.number styles.fill_by styles.places_by
filled_by f w own width v a =
    flag_cases (λ f. Column f w own width v (styles.number (record { flag = f; width = w }) own width v)) f a
    refl refl (fill_below own 0 (plain v) (omega arith)) refl

-- by the forms of numbers: the weekday from Sunday, those filled with blanks, and the others
module _ (m : Moment) (f w width v : ℕ) (a : among f (0 ∷ bytes "_-0") ≡ true) where
  not-sunday : (t : Bool) → Column f w (cond t 32 48) width v (formed m (record { flag = f; width = w }) (cond t Blanks Zeros) width v)
  unfolding formed
  not-sunday true = filled_by f w 32 width v a
  not-sunday false = filled_by f w 48 width v a

  formed-column : (c : ℕ)
      → Column f w (cond (among c blanks) 32 48) width (cond (eqb c (code "w")) (v % 7) v)
      (formed m (record { flag = f; width = w }) (form_of c) width v)
  unfolding form_of
  formed-column c =
      elim (ℕ_discrete c 119) [
        | yes e ↦ rw e (unfold formed blanks conversions.computes in filled_by f w 48 width (v % 7) a)
        | no n ↦ rw (ne_eqb c 119 n) (not-sunday (among c blanks))
      ]

number_column : (f w c : ℕ) (m : Moment) → among c numbers ≡ true → among f (0 ∷ bytes "_-0") ≡ true
    → converted (record { flag = f; width = w }) (conversion_of c) m ≡ column f w c m
unfolding column digits_of
number_column f w c m n a =
    by_form (record { flag = f; width = w }) (conversion_of c) m (number_form c n) refl
    ∙ formed-column m f w (conversion_of c).width (value (conversion_of c).kind m) a c

-- ---- names

capital_small : (s : List ℕ) → map capital (map fold s) ≡ map capital s
capital_small [] = refl
capital_small (b ∷ s) = rw (capital_fold b, capital_small s)

-- alone, with a width, and in capitals
module _ (m : Moment) (w : ℕ) where
  name-column : (f : Form) → is_name f ≡ true → (width v : ℕ)
      → formed m (record { flag = 0; width = w }) f width v ≡ fill 32 w (formed m unstyled f width v)
  unfolding is_name formed styles.name styles.case_by cased
  name-column Zeros e width v = clash (cc)
  name-column Blanks e width v = clash (cc)
  name-column FromSunday e width v = clash (cc)
  name-column (Short t) e width v = rw (fill_below 32 0 (short (name_for t v)) (omega arith))
  name-column (Full t) e width v = rw (fill_below 32 0 (name_for t v) (omega arith))
  name-column (Lower t) e width v = rw (fill_below 32 0 (map fold (name_for t v)) (omega arith))
  name-column Zone e width v = clash (cc)
  name-column Seconds e width v = clash (cc)
  name-column Unknown e width v = clash (cc)

  capital-column : (f : Form) → is_name f ≡ true → (width v : ℕ)
      → formed m (record { flag = 94; width = w }) f width v ≡ fill 32 w (map capital (formed m unstyled f width v))
  unfolding is_name formed styles.name styles.case_by cased
  capital-column Zeros e width v = clash (cc)
  capital-column Blanks e width v = clash (cc)
  capital-column FromSunday e width v = clash (cc)
  capital-column (Short t) e width v = rw (fill_below 32 0 (short (name_for t v)) (omega arith))
  capital-column (Full t) e width v = rw (fill_below 32 0 (name_for t v) (omega arith))
  capital-column (Lower t) e width v = rw (fill_below 32 0 (map fold (name_for t v)) (omega arith), capital_small (name_for t v))
  capital-column Zone e width v = clash (cc)
  capital-column Seconds e width v = clash (cc)
  capital-column Unknown e width v = clash (cc)

-- ---- which flags are taken

or_false : (a b : Bool) → (a || b) ≡ true → a ≡ false → b ≡ true
or_false true b e z = clash (cc)
or_false false b e z = e

number_takes : (f c : ℕ) → among c numbers ≡ true → among f (0 ∷ bytes "_-0") ≡ true → takes (is_number (conversion_of c).form) f ≡ true
number_takes f c n k =
    rw (number_form c n, is_number_lem c) (among_passes (takes true) (0 ∷ bytes "_-0") (unfold every conversions.computes in refl) f k)

-- those that do not belong to it are not
refused_flag : (number : Bool) (s : List ℕ) → every (λ f. among f s || not (takes number f)) (0 ∷ flags) ≡ true → (f : ℕ)
    → among f (0 ∷ flags) ≡ true → among f s ≡ false → takes number f ≡ false
refused_flag number s e f k n =
    not_eq_true (takes number f) (or_false (among f s) (not (takes number f)) (among_passes _ (0 ∷ flags) e f k) n)

both_false : (a b : Bool) → (a || b) ≡ false → (a ≡ false) × (b ≡ false)
both_false true b e = clash (cc)
both_false false b e = (refl, e)

-- a byte among the first or the second
split_more : (t p q r : Bool) → (r ≡ true → (p ≡ true) ⊎ (q ≡ true)) → cond t true r ≡ true → (cond t true p ≡ true) ⊎ (q ≡ true)
split_more true p q r f e = inl refl
split_more false p q r f e = f e

among_split : (x y : List ℕ) (c : ℕ) → among c (x ++ y) ≡ true → (among c x ≡ true) ⊎ (among c y ≡ true)
unfolding among
among_split [] y c e = inr e
among_split (b ∷ x) y c e = split_more (eqb c b) (among c x) (among c y) (among c (x ++ y)) (among_split x y c) e

-- ---- the whole

module _ (t : Fields) (m : Moment) (v : moment_of t.year t.month t.day t.hour t.minute t.second t.offset ≡ Ok m)
    (w c : ℕ) (h : w ≤ 99) (a : among c letters ≡ true) where
  abbrev row : Conversion
  row = conversion_of c

  either_number : among c numbers ≡ true → among c (numbers ++ names) ≡ true
  either_number n = among_passes (λ c. among c (numbers ++ names)) numbers (unfold numbers names every conversions.computes in refl) c n

  number : among c numbers ≡ true → (f : ℕ) → among f (0 ∷ bytes "_-0") ≡ true → Writes (format f w c) t (column f w c m)
  number n f k b =
      let known = among_passes (λ f. among f (0 ∷ flags)) (0 ∷ bytes "_-0") (unfold flags every conversions.computes in refl) f k in
      taken t m v f w c known h a (either_number n) (number_takes f c n k) b ∙ ap (λ (x : List ℕ). put x b) (number_column f w c m n k)

  module _ (n : among c names ≡ true) where
    either-name : among c (numbers ++ names) ≡ true
    either-name = among_passes (λ c. among c (numbers ++ names)) names (unfold numbers names every conversions.computes in refl) c n

    name : Writes (format 0 w c) t (fill 32 w (converted unstyled row m))
    unfolding converted
    name b =
        taken t m v 0 w c (unfold among in refl) h a either-name refl b
        ∙ ap (λ (x : List ℕ). put x b) (name-column m w row.form (name_form c n) row.width (value row.kind m))

    capitals : Writes (format 94 w c) t (fill 32 w (map capital (converted unstyled row m)))
    unfolding converted
    capitals b =
        taken t m v 94 w c (unfold flags conversions.computes in refl) h a either-name (rw (no_number row.form (name_form c n))) b
        ∙ ap (λ (x : List ℕ). put x b) (capital-column m w row.form (name_form c n) row.width (value row.kind m))

  refuses : (f : ℕ) → among f (0 ∷ flags) ≡ true → belongs f c ≡ false → (eqb f 0 && eqb w 0) ≡ false
      → (b : List ℕ) → writing (format f w c) t b ≡ writer.refused 3 0 b
  unfolding belongs
  refuses f k l z b =
      let n = among c numbers && among f (0 ∷ bytes "_-0") in
      let apart = both_false n (among c names && among f (0 ∷ bytes "^")) l in
      ⊎_elim
      (λ (u : among c numbers ≡ true).
      let g = refused_flag true (0 ∷ bytes "_-0") (unfold flags every conversions.computes in refl) f k (rw u at apart.0) in
      not_taken t m v f w c k h a (either_number u) (rw (number_form c u, is_number_lem c) g) b)
      (λ (u : among c (names ++ others) ≡ true).
      ⊎_elim
      (λ (n : among c names ≡ true).
      let g = refused_flag false (0 ∷ bytes "^") (unfold flags every conversions.computes in refl) f k (rw n at apart.1) in
      not_taken t m v f w c k h a (either-name n) (rw (no_number row.form (name_form c n)) g) b)
      (λ (o : among c others ≡ true). other t m v f w c k h a o z b)
      (among_split names others c u))
      (among_split numbers (names ++ others) c a)

pub columns : (t : Fields) (m : Moment) → moment_of t.year t.month t.day t.hour t.minute t.second t.offset ≡ Ok m
    → (w c : ℕ) → w ≤ 99 → among c (numbers ++ (names ++ others)) ≡ true → Columns t m w c
unfolding flags
columns t m v w c h a =
    record {
      number = number t m v w c h a;
      name = name t m v w c h a;
      capitals = capitals t m v w c h a;
      refuses = refuses t m v w c h a;
      reads_none = λ f k. unread-by t m v f w c k h a;
    }
