-- The words of a fact are digits, or letters, from the first to the last, and before them an element takes white space alone.
-- Assumes nothing.
use Prim.Native.Nat.{ℕ, zero, suc, ◌+◌, ◌-◌, ◌/◌, ◌%◌}
use mathlib.Core.Bool.{Bool, true, false, cond, ◌&&◌, and-eq-true_iff, false≢true}
use mathlib.Core.List.{List, [], ◌∷◌}
use mathlib.Core.Logic.{◌⊎◌, inl, inr}
use mathlib.Core.Path.{◌≡◌, refl, ap}
use native.Mathlib.Omega.{arith}
use borrow.Author.Tests.{eqb-true}
use lib.Dec.{eqb, leb, eqb→eq}
use lib.ListN.{length, take, drop}
use Rattle.kinds.specs.Kinds.{zone_offset}
use Rattle.conversions.specs.Conversions.{conversion_of, computes as rows-compute}
use Rattle.conversions.proofs.Rows.{conversion_passes}
use Rattle.format.specs.Opening.{is_byte, letter_of}
use Rattle.conversions.specs.declared.conversions.Conversion.{Conversion}
use Rattle.conversions.specs.declared.conversions.Form.{Form}
use Rattle.conversions.specs.declared.conversions.Form.TheVariants.{Zeros, Blanks, FromSunday, Short, Full, Lower, Zone, Seconds, Unknown}
use Rattle.laws.specs.Lists.{every}
use Rattle.laws.proofs.Cases.{picked, either}
use Rattle.laws.proofs.Lists.{every_member}
use Rattle.matching.specs.Elements.{ordinary, read_byte, ranged, read_number, from_sunday, named, read_named, read_form}
use Rattle.matching.specs.Elements.{read_conversion, read_element}
use Rattle.matching.specs.Zones.{is_sign, offset_at, signed_at, read_zone}
use Rattle.matching.specs.Extents.{between}
use Rattle.names.specs.Case.{fold}
use Rattle.text.specs.Digits.{is_digit, digit_run, decimal, read_digits}
use Rattle.names.specs.Names as names
use Rattle.names.specs.Names.{forms_of, goes_on, read_name}
use Rattle.text.specs.Space.{is_space, spaces}
use Rattle.names.specs.declared.names.Names.{Names}
use Rattle.names.specs.declared.names.Names.TheVariants.{Weekdays, Months, Halves}
use Rattle.names.proofs.Forms.{is_read}
use Rattle.demands.specs.Reasons.{is_letter, FromTheFirst}
use Rattle.std.specs.Prelude.{Err, None, Ok, Option, Result, Some}
use Rattle.matching.specs.declared.Refused.{Refused}
use Rattle.matching.specs.declared.elements.Item.TheVariants.{Fact, Skip}
use Rattle.matching.specs.declared.elements.Item.{Item}
use Rattle.names.specs.declared.names.NameRead.{NameRead}

-- ---- white space

spaces_first : (s : List ℕ) → every is_space (take (spaces s) s) ≡ true
unfolding spaces every
spaces_first [] = refl
spaces_first (b ∷ s) =
    either (λ (n : ℕ). every is_space (take n (b ∷ s)) ≡ true) (is_space b) (λ e. rw e (spaces_first s)) (λ e. refl)

-- ---- digits

run_first : (w : ℕ) (s : List ℕ) → take (length (digit_run w s)) s ≡ digit_run w s
unfolding digit_run
run_first zero s = refl
run_first (suc w) [] = refl
run_first (suc w) (b ∷ s) =
    picked (λ (r : List ℕ). take (length r) (b ∷ s) ≡ r) (is_digit b) (ap (λ (r : List ℕ). b ∷ r) (run_first w s)) refl

run_digits : (w : ℕ) (s : List ℕ) → every is_digit (digit_run w s) ≡ true
unfolding digit_run every
run_digits zero s = refl
run_digits (suc w) [] = refl
run_digits (suc w) (b ∷ s) =
    either (λ (r : List ℕ). every is_digit r ≡ true) (is_digit b) (λ e. rw e (run_digits w s)) (λ e. refl)

-- ---- letters

-- of every form of every name
letters_all : (t : Names) → every (λ (x : names.Form). every is_letter x.letters) (forms_of t) ≡ true
unfolding names.computes every is_letter fold
letters_all Weekdays = refl
letters_all Months = refl
letters_all Halves = refl

-- and of a text that goes on with them
goes_letters : (x s : List ℕ) → goes_on x s ≡ true → every is_letter x ≡ true → every is_letter (take (length x) s) ≡ true
unfolding goes_on every is_letter
goes_letters [] s g e = refl
goes_letters (a ∷ x) [] g e = absurd (false≢true g)
goes_letters (a ∷ x) (b ∷ s) g e = go (eqb (fold a) (fold b)) refl g (λ h d. goes_letters x s h d)
  where
    go : (q : Bool) → eqb (fold a) (fold b) ≡ q → cond q (goes_on x s) false ≡ true
        → (goes_on x s ≡ true → every is_letter x ≡ true → every is_letter (take (length x) s) ≡ true)
        → ((leb 97 (fold b) && leb (fold b) 122) && every is_letter (take (length x) s)) ≡ true
    go true p h rest =
        let t = (and-eq-true_iff (leb 97 (fold a) && leb (fold a) 122) (every is_letter x)).0 e in
        let y = eqb-true (fold a) (fold b) p in
        (and-eq-true_iff (leb 97 (fold b) && leb (fold b) 122) (every is_letter (take (length x) s))).1
        (rw y at t.0, rest h t.1)
    go false p h rest = absurd (false≢true h)

-- ---- the kind of %z

zoned : Form → ℕ → Bool
zoned Zeros k = true
zoned Blanks k = true
zoned FromSunday k = true
zoned (Short t) k = true
zoned (Full t) k = true
zoned (Lower t) k = true
zoned Zone k = eqb k zone_offset
zoned Seconds k = true
zoned Unknown k = true

zone_kind : (c : ℕ) → (conversion_of c).form ≡ Zone → (conversion_of c).kind ≡ zone_offset
unfolding zoned
zone_kind c e =
    let t = conversion_passes (λ r. zoned r.form r.kind) c (unfold rows-compute every in tt) (unfold rows-compute in tt) in
    eqb→eq (conversion_of c).kind zone_offset (rw e at t)

-- ---- an item's words, where the element stands at an offset
module _ (s : List ℕ) where
  abbrev Before : ℕ → ℕ → Type 0
  Before at from = every is_space (between s at from) ≡ true

  abbrev Bytes : ℕ → ℕ → Type 0
  Bytes from next = (every is_digit (between s from next) ≡ true) ⊎ (every is_letter (between s from next) ≡ true)

  unfoldable pub Words : ℕ → Result Item Refused → Type 0
  Words at (Ok (Skip next)) = Unit {0}
  Words at (Ok (Fact k n f from next)) = Before at from × ((k ≡ zone_offset → ⊥) → Bytes from next)
  Words at (Err why) = Unit {0}

  -- as many bytes as lie between
  between_is : (from n : ℕ) → between s from (from + n) ≡ take n (drop from s)
  between_is from n = let e : from + n - from ≡ n = omega arith in rw e

  number-words : (c : Conversion) (at : ℕ) → Words at (read_number c s at)
  unfolding read_number ranged Words
  number-words c at =
      let from = at + spaces (drop at s) in
      let ds = digit_run c.width (drop from s) in
      let blank : Before at from = rw (between_is at (spaces (drop at s))) (spaces_first (drop at s)) in
      let digits : Bytes from (from + length ds)
      = inl (rw (between_is from (length ds), run_first c.width (drop from s)) (run_digits c.width (drop from s))) in
      picked (Words at) (eqb (length ds) 0) tt
      (picked (Words at) (leb c.low (decimal 0 ds) && leb (decimal 0 ds) c.high) (blank, λ _. digits) tt)

  sunday-words : (at : ℕ) (i : Result Item Refused) → Words at i → Words at (from_sunday i)
  unfolding from_sunday Words
  sunday-words at (Ok (Skip n)) w = tt
  sunday-words at (Ok (Fact k v f from n)) w = w
  sunday-words at (Err why) w = tt

  named-words : (t : Names) (c : Conversion) (at : ℕ) → Words at (read_named t c s at)
  unfolding read_named named Words read_name every
  named-words t c at = go (read_name t (drop at s)) refl
    where
      go : (r : Option NameRead) → read_name t (drop at s) ≡ r → Words at (named t c.kind r at)
      go (Some x) e =
          let r = is_read (forms_of t) (drop at s) e in
          let l = every_member (λ (x : names.Form). every is_letter x.letters) (forms_of t) (letters_all t) r.form r.listed in
          let none : Before at at = let z : at - at ≡ 0 = omega arith in rw z in
          (none, λ _. inr (rw (between_is at x.length, ← r.long) (goes_letters r.form.letters (drop at s) r.fits l)))
      go None e = tt

  -- a zone offset has a sign, which is neither digit nor letter; no reason names it
  zone-words : (c : Conversion) (at : ℕ) → c.kind ≡ zone_offset → Words at (read_zone c s at)
  unfolding read_zone signed_at offset_at Words every
  zone-words c at e = go (drop at s)
    where
      go : (t : List ℕ) → Words at (signed_at c.kind t at)
      go [] = tt
      go (b ∷ t) =
          let d = read_digits 4 t in
          let none : Before at at = let z : at - at ≡ 0 = omega arith in rw z in
          picked (Words at) (is_sign b)
          (picked (Words at) (eqb d.count 4)
          (picked (Words at) (leb (d.value / 100) 23 && leb (d.value % 100) 59) (none, λ n. absurd (n e)) tt)
          tt)
          tt

  form-words : (f : Form) (c : Conversion) (at : ℕ) → (f ≡ Zone → c.kind ≡ zone_offset) → Words at (read_form f c s at)
  unfolding read_form Words
  form-words Zeros c at z = number-words c at
  form-words Blanks c at z = number-words c at
  form-words FromSunday c at z = sunday-words at (read_number c s at) (number-words c at)
  form-words (Short t) c at z = named-words t c at
  form-words (Full t) c at z = named-words t c at
  form-words (Lower t) c at z = named-words t c at
  form-words Zone c at z = zone-words c at (z refl)
  form-words Seconds c at z = tt
  form-words Unknown c at z = tt

  byte-words : (b at : ℕ) → Words at (read_byte b s at)
  unfolding read_byte ordinary Words
  byte-words b at = picked (Words at) (is_space b) tt (go (drop at s))
    where
      go : (t : List ℕ) → Words at (ordinary b t at)
      go [] = tt
      go (c ∷ t) = picked (Words at) (eqb c b) tt tt

  pub element_words : (e at : ℕ) → Words at (read_element e s at)
  unfolding read_element read_conversion
  element_words e at =
      let c = conversion_of (letter_of e) in
      picked (Words at) (is_byte e) (byte-words e at) (form-words c.form c at (zone_kind (letter_of e)))

pub from_the_first : FromTheFirst
unfolding Words
from_the_first e at k n from next s f r =
    let w : Words s at (Ok (Fact k n f from next)) = rw r at (element_words s e at) in
    w.0
