-- Every place that a writing answers fits 32 bits: a field's number, an offset of a format, an index of an entry, or bytes that some
-- elements write.
-- Assumes nothing.
use Prim.Native.Nat.{ℕ, ◌≤◌, ◌<◌, ◌^◌}
use mathlib.Core.Bool.{true}
use mathlib.Core.List.{List, [], ◌∷◌}
use mathlib.Core.Path.{◌≡◌, refl}
use native.Mathlib.Omega.{arith}
use borrow.Author.Tests.{leb-true, eqb-true}
use lib.Dec.{eqb, leb, lit≤}
use lib.ListN.{length}
use Rattle.std.specs.Prelude.{Option, None, Some}
use Rattle.laws.proofs.Cases.{either, picked}
use Rattle.format.specs.Opening.{Ended, opening, longest, most_elements, elements_in}
use Rattle.format.specs.Opening.Ended.{Whole, BadAt}
use Rattle.format.specs.declared.opening.Side.TheVariants.{Writer}
use Rattle.format.proofs.Bound.{bound}
use Rattle.format.proofs.Refused.{bad_within}
use Rattle.values.specs.Moments.{moment_fault, moment_of, field_of, field_number}
use Rattle.values.specs.declared.Moment.{Moment}
use Rattle.strftime.specs.Private.{IsMoment}
use Rattle.strftime.specs.Writing.{Outcome, text, refused, put, is_seconds, first_seconds, lacking, offered, by_format}
use Rattle.strftime.specs.Writing.{by_elements, for_moment, for_fields, writing, elements_writing}
use Rattle.strftime.specs.declared.Fields.{Fields}
use Rattle.format.proofs.Entries.{counted_few}
use Rattle.strftime.proofs.Lengths.{text_any}
use Rattle.std.specs.Prelude.{Result, ℤ}
use Rattle.values.specs.declared.fields.Field.{Field}
use Rattle.values.specs.declared.fields.Field.TheVariants.{Year, Month, Day, Hour, Minute, Second, Offset}

-- its place fits 32 bits
abbrev Fits : Outcome → Type 0
Fits w = w.answer.place < 2 ^ 32

put_place : (s b : List ℕ) → (put s b).answer.place ≡ length s
unfolding put refused
put_place s b =
    either (λ (w : Outcome). w.answer.place ≡ length s) (leb (length s) (length b)) (λ _. refl) (λ _. refl)

-- ---- 2

field_few : (f : Field) → field_number f ≤ 7
unfolding field_number
field_few Year = lit≤ tt
field_few Month = lit≤ tt
field_few Day = lit≤ tt
field_few Hour = lit≤ tt
field_few Minute = lit≤ tt
field_few Second = lit≤ tt
field_few Offset = lit≤ tt

fields_place : (rest : Moment → Outcome) (t : Fields) (b : List ℕ) → ((m : Moment) → IsMoment m → Fits (rest m))
    → Fits (for_fields rest b t)
unfolding for_fields for_moment moment_of refused
fields_place rest t b f =
    let fault = moment_fault t.year t.month t.day t.hour t.minute t.second t.offset in
    either (λ (r : Result Moment Field). Fits (for_moment rest b r)) (eqb fault 0) (λ z. f _ (eqb-true _ 0 z))
    (λ _. omega (arith, field_few (field_of fault)))

-- ---- 3, 12, 4 and 0

-- the offset of a %, as an element has it
abbrev Short : Option ℕ → Type 0
Short None = Unit {0}
Short (Some p) = p < longest

first_short : (es : List ℕ) → Short (first_seconds es)
unfolding first_seconds
first_short [] = tt
first_short (e ∷ es) = picked Short (is_seconds e) (omega arith) (first_short es)

lacking_short : (o : Option ℤ) (es : List ℕ) → Short (lacking o es)
unfolding lacking
lacking_short None es = first_short es
lacking_short (Some z) es = tt

offered_place : (es b : List ℕ) (m : Moment) → IsMoment m → length es ≤ most_elements → Fits (offered es b m)
unfolding offered refused
offered_place es b m i few = go (lacking m.offset es) refl (lacking_short m.offset es)
  where
    go : (l : Option ℕ) → lacking m.offset es ≡ l → Short l → Fits (offered es b m)
    go None e h = rw e (omega (arith, put_place (text m es) b, text_any m i es))
    go (Some p) e h = rw e (omega arith)

format_place : (f b : List ℕ) (m : Moment) → IsMoment m → length f ≤ longest → Fits (by_format f b m)
unfolding by_format refused
format_place f b m i h = go (opening Writer f).ended refl
  where
    go : (d : Ended) → (opening Writer f).ended ≡ d → Fits (by_format f b m)
    go Whole e =
        let es = (opening Writer f).elements in
        rw e (offered_place es b m i (omega (arith, bound Writer f)))
    go (BadAt p) e = rw e (omega (arith, bad_within Writer f e))

entries_place : (es b : List ℕ) (m : Moment) → IsMoment m → Fits (by_elements es b m)
unfolding by_elements refused
entries_place es b m i =
    let good = elements_in Writer most_elements es in
    let few = counted_few Writer most_elements es in
    either Fits (eqb good (length es))
    (λ (e : eqb good (length es) ≡ true). offered_place es b m i (omega (arith, few, eqb-true good (length es) e)))
    (λ _. omega (arith, few))

-- ---- the whole

pub writing_place : (f : List ℕ) (t : Fields) (b : List ℕ) → (writing f t b).answer.place < 2 ^ 32
unfolding writing refused
writing_place f t b =
    either Fits (leb (length f) longest)
    (λ (e : leb (length f) longest ≡ true).
    fields_place (by_format f b) t b (λ m i. format_place f b m i (leb-true (length f) longest e)))
    (λ _. omega arith)

pub elements_place : (es : List ℕ) (t : Fields) (b : List ℕ) → (elements_writing es t b).answer.place < 2 ^ 32
unfolding elements_writing
elements_place es t b = fields_place (by_elements es b) t b (λ m i. entries_place es b m i)
