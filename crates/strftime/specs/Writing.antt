-- The writer: what an element writes for a moment (RULES 5), and what a writing answers and leaves in the buffer (RULES 3).
use Prim.Native.Char.{code}
use Rattle.std.specs.Prelude.{ℕ, ◌-◌, Bool, false, cond, List, [], ◌∷◌, ◌++◌, Option, None, Some, Result, Ok, Err, ℤ, eqb, leb, length}
use Rattle.std.proofs.lemmas.List.Edits.{sets}
use Rattle.conversions.specs.Conversions.{conversion_of}
use Rattle.format.specs.Opening.{Ended, Whole, BadAt, opening, longest, is_byte, letter_of, after_sign, style_of}
use Rattle.format.specs.Opening.{most_elements, elements_in}
use Rattle.format.specs.declared.opening.Side.TheVariants.{Writer}
use Rattle.values.specs.Moments.{moment_of, field_number}
use Rattle.values.specs.declared.Moment.{Moment}
use Rattle.converted.specs.Converted as written
use Rattle.converted.specs.Converted.{converted}
use Rattle.strftime.specs.declared.Fields.{Fields}
use Rattle.strftime.specs.declared.Writing.{Writing}
use Rattle.strftime.specs.declared.WriteRefusal.{WriteRefusal}
use Rattle.strftime.specs.declared.WriteRefusal.TheVariants.{FormatTooLong, BadMoment, BadConversion, NoOffset, BufferTooSmall}
use Rattle.values.specs.declared.fields.Field.{Field}

-- ---- what is written

-- what an element writes: a byte itself, a conversion its value
unfoldable pub element : Moment → ℕ → List ℕ
element m e = cond (is_byte e) (e ∷ []) (converted (style_of e) (conversion_of (letter_of e)) m)

-- what elements write, one after the other
unfoldable pub text : Moment → List ℕ → List ℕ
text m [] = []
text m (e ∷ es) = element m e ++ text m es

-- ---- what comes back

-- the number and place of each answer
abbrev pub numbered : ℕ → ℕ → Writing
numbered n p = record { number = n; place = p }

unfoldable pub writing_of : Result ℕ WriteRefusal → Writing
writing_of (Ok n) = numbered 0 n
writing_of (Err FormatTooLong) = numbered 1 0
writing_of (Err (BadMoment f)) = numbered 2 (field_number f)
writing_of (Err (BadConversion p)) = numbered 3 p
writing_of (Err (NoOffset p)) = numbered 12 p
writing_of (Err (BufferTooSmall n)) = numbered 4 n

-- what a writing answers, and what it leaves in the buffer
pub record Outcome : Type 0 where
  pub answer : Writing
  pub buffer : List ℕ

-- a refusal changes no byte of the buffer
unfoldable pub refused : ℕ → ℕ → List ℕ → Outcome
refused n p b = record { answer = numbered n p; buffer = b }

-- some bytes over the start of the buffer, if they fit: 4 with the bytes needed, or 0 with the bytes written
unfoldable pub put : List ℕ → List ℕ → Outcome
put s b =
    cond (leb (length s) (length b)) (record { answer = numbered 0 (length s); buffer = sets b 0 s })
    (refused 4 (length s) b)

-- an element is %s
unfoldable pub is_seconds : ℕ → Bool
is_seconds e = cond (is_byte e) false (eqb (letter_of e) (code "s"))

-- the first %s among some elements, by the offset of its %
unfoldable pub first_seconds : List ℕ → Option ℕ
first_seconds [] = None
first_seconds (e ∷ es) = let more = first_seconds es in cond (is_seconds e) (Some (after_sign e - 1)) more

-- what a moment lacks to be written by some elements: its offset, where that is unsaid and %s is among them
unfoldable pub lacking : Option ℤ → List ℕ → Option ℕ
lacking None es = first_seconds es
lacking (Some z) es = None

-- 12, then 4: by elements
unfoldable pub offered : List ℕ → List ℕ → Moment → Outcome
offered es b m = go (lacking m.offset es)
  where
    go : Option ℕ → Outcome
    go None = put (text m es) b
    go (Some p) = refused 12 p b

-- 3 before them: by a format
unfoldable pub by_format : List ℕ → List ℕ → Moment → Outcome
by_format f b m = go (opening Writer f).ended
  where
    go : Ended → Outcome
    go Whole = offered (opening Writer f).elements b m
    go (BadAt p) = refused 3 p b

-- the same by the elements of a format that was opened before: 3 at the first entry that is no element
unfoldable pub by_elements : List ℕ → List ℕ → Moment → Outcome
by_elements es b m =
    let good = elements_in Writer most_elements es in
    let rest = offered es b m in
    cond (eqb good (length es)) rest (refused 3 good b)

-- 2 for fields that are no moment, else the rest of the order
unfoldable pub for_moment : (Moment → Outcome) → List ℕ → Result Moment Field → Outcome
for_moment rest b (Ok m) = rest m
for_moment rest b (Err f) = refused 2 (field_number f) b

unfoldable pub for_fields : (Moment → Outcome) → List ℕ → Fields → Outcome
for_fields rest b t = for_moment rest b (moment_of t.year t.month t.day t.hour t.minute t.second t.offset)

-- the whole order: 1, 2, 3, 12, 4, then 0
unfoldable pub writing : List ℕ → Fields → List ℕ → Outcome
writing f t b =
    let rest = for_fields (by_format f b) b t in
    cond (leb (length f) longest) rest (refused 1 0 b)

-- elements written: 2, 3, 12, 4
unfoldable pub elements_writing : List ℕ → Fields → List ℕ → Outcome
elements_writing es t b = for_fields (by_elements es b) b t

-- the most bytes that a format of the longest length writes: 256 times %99d (RULES 10; proofs/Longest.antt)
abbrev pub longest_writing : ℕ
longest_writing = 25344

-- everything here, for proofs that compute
unfoldable pub computes : Unit {0}
unfolding written.computes element text writing_of refused put
    is_seconds first_seconds lacking
    offered by_format by_elements
    for_moment for_fields writing elements_writing
computes = tt
