-- What reading an element can find: offsets within the text, and facts that a text can say.
-- Assumes nothing.
use Prim.Native.Nat.{ℕ, suc, ◌+◌, ◌-◌, ◌*◌, ◌/◌, ◌%◌, ◌≤◌, ◌<◌}
use mathlib.Core.Bool.{Bool, true, false, cond, ◌&&◌, and-eq-true_iff}
use mathlib.Core.List.{List, [], ◌∷◌}
use mathlib.Core.Path.{◌≡◌, refl}
use native.Mathlib.Omega.{arith}
use borrow.Author.Tests.{leb-true, eqb-true, eqb-false}
use lib.Dec.{T, eqb, leb, leb→le, lit≤}
use lib.ListN.{length, drop, length-drop}
use Rattle.laws.proofs.Cases.{either, picked}
use Rattle.laws.proofs.Table.{both}
use Rattle.conversions.specs.Conversions.{conversion_of}
use Rattle.format.specs.Opening.{is_byte, letter_of}
use Rattle.conversions.specs.declared.conversions.Conversion.{Conversion}
use Rattle.conversions.specs.declared.conversions.Form.{Form}
use Rattle.conversions.specs.declared.conversions.Form.TheVariants.{Zeros, Blanks, FromSunday, Short, Full, Lower, Zone, Seconds, Unknown}
use Rattle.matching.specs.Elements.{ordinary, read_byte, ranged, read_number, from_sunday, named, read_named, read_form}
use Rattle.matching.specs.Elements.{read_conversion, read_element}
use Rattle.text.specs.Digits.{digit_run, decimal, read_digits}
use Rattle.names.specs.Names.{names_of, read_name}
use Rattle.names.specs.Naming.{first_value, value_at}
use Rattle.text.specs.Space.{is_space, spaces}
use Rattle.names.specs.declared.names.Names.{Names}
use Rattle.values.specs.Offsets.{offset_number}
use Rattle.matching.specs.Zones.{is_sign, signed_by, offset_at, signed_at, read_zone}
use Rattle.matching.proofs.Lengths.{spaces_most, run_most, name_named}
use Rattle.matching.proofs.Zoned.{number_most, four_most}
use Rattle.matching.proofs.Told.{Told, spans, spans_told, spans_names, spans_form, conversion_spans}
use Rattle.std.specs.Prelude.{Err, None, Ok, Option, Result, Some}
use Rattle.matching.specs.declared.Refused.TheVariants.{Mismatch, Range, Conflict}
use Rattle.matching.specs.declared.Refused.{Refused}
use Rattle.matching.specs.declared.elements.Item.TheVariants.{Fact, Skip}
use Rattle.matching.specs.declared.elements.Item.{Item}
use Rattle.names.specs.declared.names.NameForm.{NameForm}
use Rattle.names.specs.declared.names.NameRead.{NameRead}

-- where an element is refused
abbrev pub place : Refused → ℕ
place (Mismatch p) = p
place (Range p) = p
place (Conflict p) = p

-- what an element found: offsets of the text, and a fact of which P holds
unfoldable pub Finds : (ℕ → ℕ → Type 0) → List ℕ → Result Item Refused → Type 0
Finds P s (Ok (Skip n)) = n ≤ length s
Finds P s (Ok (Fact k v f from n)) = P k v × (from < n) × (n ≤ length s)
Finds P s (Err why) = place why ≤ length s

abbrev pub Sound : List ℕ → Result Item Refused → Type 0
Sound s i = Finds Told s i

module _ (s : List ℕ) (at : ℕ) (h : at ≤ length s) where
  sound-byte : (b : ℕ) → Sound s (read_byte b s at)
  unfolding read_byte ordinary Finds
  sound-byte b =
      picked (Sound s) (is_space b)
      (omega (arith, spaces_most (drop at s), length-drop at s))
      (go (drop at s) (length-drop at s))
    where
      go : (t : List ℕ) → length t ≡ length s - at → Sound s (ordinary b t at)
      go [] e = h
      go (c ∷ t) e = picked (Sound s) (eqb c b) (omega arith) (omega arith)

  module _ (P : ℕ → ℕ → Type 0) (c : Conversion) (p : (v : ℕ) → c.low ≤ v → v ≤ c.high → P c.kind v) where
    finds-ranged : (ds : List ℕ) (from : ℕ) → from + length ds ≤ length s → Finds P s (ranged c ds from)
    unfolding ranged Finds
    finds-ranged ds from l =
        let v = decimal 0 ds in
        either (Finds P s) (eqb (length ds) 0)
        (λ _. omega arith)
        (λ (e : eqb (length ds) 0 ≡ false). go (eqb-false (length ds) 0 e) (leb c.low v) (leb v c.high) refl refl)
      where
        go : (length ds ≡ 0 → ⊥) → (a b : Bool) → leb c.low (decimal 0 ds) ≡ a → leb (decimal 0 ds) c.high ≡ b
            → Finds P s (cond (a && b) (Ok (Fact c.kind (decimal 0 ds) None from (from + length ds))) (Err (Range from)))
        go m false b e f = omega arith
        go m true false e f = omega arith
        go m true true e f =
            let v = decimal 0 ds in
            (p v (leb-true c.low v e) (leb-true v c.high f), omega arith, l)

    finds-number : Finds P s (read_number c s at)
    unfolding read_number
    finds-number =
        let from = at + spaces (drop at s) in
        finds-ranged (digit_run c.width (drop from s)) from
        (omega (arith, run_most c.width (drop from s), length-drop from s, spaces_most (drop at s), length-drop at s))

  sound-sunday : (i : Result Item Refused) → Finds (λ k v. Told k (cond (eqb v 0) 7 v)) s i → Sound s (from_sunday i)
  unfolding from_sunday Finds
  sound-sunday (Ok (Skip n)) t = t
  sound-sunday (Ok (Fact k v f from n)) t = t
  sound-sunday (Err why) t = t

  sound-named : (t : Names) (c : Conversion) → T (spans_names t c) → Sound s (read_named t c s at)
  unfolding read_named named value_at spans_names Finds
  sound-named t c m = go (read_name t (drop at s)) refl
    where
      go : (r : Option NameRead) → read_name t (drop at s) ≡ r → Sound s (named t c.kind r at)
      go (Some r) e =
          let x = name_named t (drop at s) e in (
            spans_told c.kind (first_value t) (first_value t + length (names_of t) - 1) m (first_value t + r.index)
                (omega arith) (omega (arith, x.place)),
            omega (arith, x.some),
            omega (arith, x.long, length-drop at s),
          )
      go None e = h

  sound-zone : (c : Conversion) → T (spans c.kind 0 2878) → Sound s (read_zone c s at)
  unfolding read_zone signed_at Finds
  sound-zone c m = go (drop at s) (length-drop at s)
    where
      told : (b v : ℕ) → v ≤ 1439 → Told c.kind (offset_number (signed_by b v))
      told b v l = spans_told c.kind 0 2878 m (offset_number (signed_by b v)) (omega arith) (number_most b v l)

      digits : (b : ℕ) (t : List ℕ) → suc (length t) ≡ length s - at → Sound s (offset_at c.kind b (read_digits 4 t) at)
      digits b t e =
          let d = read_digits 4 t in
          unfold offset_at in
          either (Sound s) (eqb d.count 4)
          (λ q.
          either (Sound s) (leb (d.value / 100) 23 && leb (d.value % 100) 59)
          (λ r.
          let u = (and-eq-true_iff (leb (d.value / 100) 23) (leb (d.value % 100) 59)).0 r in (
            told b (60 * (d.value / 100) + d.value % 100)
                (omega (arith, leb-true (d.value / 100) 23 u.0, leb-true (d.value % 100) 59 u.1)),
            omega arith,
            omega (arith, e, eqb-true d.count 4 q, four_most t),
          ))
          (λ _. h))
          (λ _. h)

      go : (t : List ℕ) → length t ≡ length s - at → Sound s (signed_at c.kind t at)
      go [] e = h
      go (b ∷ t) e = picked (Sound s) (is_sign b) (digits b t e) h

  sound-form : (f : Form) (c : Conversion) → T (spans_form f c) → Sound s (read_form f c s at)
  unfolding read_form Finds spans_form
  sound-form Zeros c m = finds-number Told c (spans_told c.kind c.low c.high m)
  sound-form Blanks c m = finds-number Told c (spans_told c.kind c.low c.high m)
  sound-form FromSunday c m =
      let b = both (spans c.kind 1 7) (leb c.high 7) m in
      sound-sunday (read_number c s at)
      (finds-number (λ k v. Told k (cond (eqb v 0) 7 v)) c
      (λ v l g.
      either (λ (x : ℕ). Told c.kind x) (eqb v 0)
      (λ _. spans_told c.kind 1 7 b.0 7 (lit≤ tt) (lit≤ tt))
      (λ (e : eqb v 0 ≡ false).
      spans_told c.kind 1 7 b.0 v (omega (arith, eqb-false v 0 e)) (omega (arith, leb→le c.high 7 b.1)))))
  sound-form (Short t) c m = sound-named t c m
  sound-form (Full t) c m = sound-named t c m
  sound-form (Lower t) c m = sound-named t c m
  sound-form Zone c m = sound-zone c m
  sound-form Seconds c m = h
  sound-form Unknown c m = h

  pub sound : (e : ℕ) → Sound s (read_element e s at)
  unfolding read_element read_conversion
  sound e =
      let c = conversion_of (letter_of e) in
      picked (Sound s) (is_byte e) (sound-byte e) (sound-form c.form c (conversion_spans (letter_of e)))

  -- what an element says is a fact that a text can say, and it stands in the text
  module _
      (e : ℕ) {m : Result Item Refused} {k n from next : ℕ} {x : Option NameForm} (g : m ≡ read_element e s at)
      (f : m ≡ Ok (Fact k n x from next))
    where
      pub fact_told : Told k n
      unfolding Finds
      fact_told = (rw (← g, f) at (sound e)).0

      pub fact_placed : (from < next) × (next ≤ length s)
      unfolding Finds
      fact_placed = let r = rw (← g, f) at (sound e) in (r.1, r.2)
