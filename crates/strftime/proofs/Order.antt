-- The writer's order, 1, 2, 3, 12, 4, and then 0: what each way out answers and leaves in the buffer.
-- Assumes nothing.
use Prim.Native.Nat.{ℕ, min, ◌*◌, ◌≤◌, ◌<◌}
use mathlib.Core.Bool.{true, false, and-eq-true_iff}
use mathlib.Core.List.{List, [], ◌∷◌}
use mathlib.Core.Path.{◌≡◌, refl, sym, ap, ◌∙◌}
use native.Mathlib.Decide.{dec_le}
use native.Mathlib.Nat.{zero-add, lt_of_not-le}
use native.Mathlib.Omega.{arith}
use borrow.Author.Tests.{le-leb, lt-leb, le-ltb, lt-ltb, eq-eqb, ne_eqb, eqb-true}
use lib.Dec.{eqb}
use lib.ListN.{length, get_or, take, length-take}
use Rattle.laws.specs.Lists.{every}
use Rattle.laws.specs.Stores.{Puts}
use Rattle.laws.proofs.Cases.{either, clash}
use Rattle.calendar.specs.Calendar.{date}
use Rattle.format.specs.Opening.{opening, opened, opened_into, longest, most_elements, is_element, elements_in}
use Rattle.format.specs.declared.opening.Side.{Side}
use Rattle.format.specs.declared.opening.Side.TheVariants.{Writer, Reader}
use Rattle.format.proofs.Bound.{bound}
use Rattle.format.proofs.Elements.{elements, are_bytes, read_letter}
use Rattle.format.proofs.Entries.{counted_within, counted_all}
use Rattle.format.proofs.Entry.{all_plain}
use Rattle.format.proofs.Openings.{Opens, opened_done, opened_bad, opened_long, stored}
use Rattle.format.proofs.Sides.{same_opening}
use Rattle.values.specs.Moments.{moment_fault, moment_of}
use Rattle.values.specs.declared.Moment.{Moment}
use Rattle.strftime.specs.Private.{fields_moment, moment_writing, unopened_refusal, IsMoment}
use Rattle.strftime.specs.Writing.{Outcome, text, writing_of, refused, put, is_seconds, first_seconds, lacking, offered}
use Rattle.strftime.specs.Writing.{by_format, by_elements}
use Rattle.strftime.specs.Writing.{for_moment, for_fields, writing, elements_writing}
use Rattle.strftime.specs.declared.Fields.{Fields}
use Rattle.strftime.specs.declared.Writing.{Writing}
use Rattle.strftime.specs.declared.WriteRefusal.TheVariants.{FormatTooLong, BadMoment, BadConversion, NoOffset, BufferTooSmall}
use Rattle.std.specs.Prelude.{Option, None, Some, Err, Ok, Result, ℤ}
use Rattle.format.specs.declared.opening.Unopened.TheVariants.{Bad, TooLong}
use Rattle.format.specs.declared.opening.Unopened.{Unopened}
use Rattle.values.specs.declared.fields.Field.{Field}

-- the answer is a, and the buffer is left as c
abbrev pub Gives : Writing → List ℕ → Outcome → Type 0
Gives a c w = record { result_value : a ≡ w.answer; out_after : c ≡ w.buffer }

-- ---- the bytes to put: 4 and 0

module _ (s b : List ℕ) where
  pub too_small : {n : ℕ} → n ≡ length s → length b < n → Gives (writing_of (Err (BufferTooSmall n))) b (put s b)
  unfolding put refused writing_of
  too_small e h = rw (← e, lt-leb _ (length b) h) (record { result_value = refl; out_after = refl })

  pub fits : {n : ℕ} {c : List ℕ} → length s ≤ length b → Puts s b 0 c n → Gives (writing_of (Ok n)) c (put s b)
  unfolding put writing_of
  fits h p = rw (le-leb (length s) (length b) h, p.ends, zero-add (length s)) (record { result_value = refl; out_after = p.stores })

-- ---- a format: 1 and 3

-- the first n entries of ys are the elements of a format f, which opens whole
pub record Stored (side : Side) (f : List ℕ) (n : ℕ) (ys : List ℕ) : Type 0 where
  pub opens : Opens side f n
  pub room : n ≤ length ys
  pub first : take n ys ≡ (opening side f).elements

-- opened into xs, which has room for 13 elements to two bytes
pub all_stored : (side : Side) (f xs : List ℕ) {r : Result ℕ Unopened} {ys : List ℕ} {n : ℕ} → 13 * min longest (length f) ≤ 2 * length xs
    → r ≡ opened side f
    → ys ≡ opened_into side f xs → r ≡ Ok n → Stored side f n ys
all_stored side f xs {ys = ys} {n = n} h a s e =
    let o = opened_done side f a e in
    let first = stored side f xs s o (omega (arith, o.count, o.short, bound side f)) in
    record { opens = o; room = omega (arith, o.count, ap length first, length-take n ys); first = first }

-- those of a format of bytes that was opened as for the reader have neither flags nor widths, and none is %s
pub all_unstyled : (f : List ℕ) {n : ℕ} {ys : List ℕ} → ((k : ℕ) → get_or f k 0 < 256) → Stored Reader f n ys
    → (length (take n ys) ≤ most_elements) × (every (is_element Reader) (take n ys) ≡ true)
all_unstyled f b h =
    rw h.first (omega (arith, h.opens.few, h.opens.count), elements Reader f h.opens.short (are_bytes f (λ k l. b k)))

-- elements that are read have no %s, and so a moment lacks nothing to be written by them
plain_first : (es : List ℕ) → every (is_element Reader) es ≡ true → first_seconds es ≡ None
unfolding first_seconds every
plain_first [] p = refl
plain_first (e ∷ es) p =
    let u = (and-eq-true_iff (is_element Reader e) (every (is_element Reader) es)).0 p in
    rw (not-seconds e u.0) (plain_first es u.1)
  where
    not-seconds : (e : ℕ) → is_element Reader e ≡ true → is_seconds e ≡ false
    not-seconds e q =
        elim (dec_le 256 e) [
          | yes h ↦ unfold is_seconds in rw (le-ltb e 256 h) (read_letter e q h)
          | no h ↦ unfold is_seconds in rw (lt-ltb e 256 (lt_of_not-le h))
        ]

plain_lacking : (o : Option ℤ) (es : List ℕ) → every (is_element Reader) es ≡ true → lacking o es ≡ None
unfolding lacking
plain_lacking None es p = plain_first es p
plain_lacking (Some z) es p = refl

plain_offered : (es b : List ℕ) (m : Moment) → every (is_element Reader) es ≡ true → offered es b m ≡ put (text m es) b
unfolding offered
plain_offered es b m p = rw (plain_lacking m.offset es p)

module _ (f : List ℕ) (m : Moment) (b : List ℕ) where
  pub whole_format : {a : Writing} {c ys : List ℕ} {n : ℕ} → Stored Writer f n ys → Gives a c (offered (take n ys) b m)
      → Gives a c (moment_writing f m b)
  unfolding moment_writing by_format
  whole_format h g = rw (le-leb (length f) longest h.opens.short, h.opens.whole) (rw h.first at g)

  -- opened as for the reader, whose elements are the writer's
  pub plain_format : {a : Writing} {c ys : List ℕ} {n : ℕ} → ((k : ℕ) → get_or f k 0 < 256) → Stored Reader f n ys
      → Gives a c (put (text m (take n ys)) b) → Gives a c (moment_writing f m b)
  unfolding moment_writing by_format
  plain_format k h g =
      let same = same_opening f h.opens.whole in
      let all = rw h.first at (all_unstyled f k h).1 in
      rw (le-leb (length f) longest h.opens.short, same, h.opens.whole, same, plain_offered _ b m all) (rw h.first at g)

  -- what opening a format answered, where it did not open whole
  module _ {r : Result ℕ Unopened} (a : r ≡ opened Writer f) where
    pub not_opened : (why : Unopened) → r ≡ Err why → Gives (writing_of (Err (unopened_refusal why))) b (moment_writing f m b)
    unfolding moment_writing by_format refused writing_of
    not_opened TooLong e = rw (lt-leb (length f) longest (opened_long Writer f a e)) (record { result_value = refl; out_after = refl })
    not_opened (Bad p) e =
        let h = opened_bad Writer f a e in
        rw (le-leb (length f) longest h.short, h.bad) (record { result_value = refl; out_after = refl })

-- ---- 12, then what is put

module _ (es b : List ℕ) (m : Moment) {l : Option ℕ} (e : l ≡ lacking m.offset es) where
  pub no_offset : {p : ℕ} → l ≡ Some p → Gives (writing_of (Err (NoOffset p))) b (offered es b m)
  unfolding offered refused writing_of
  no_offset q = rw (← e, q) (record { result_value = refl; out_after = refl })

  pub lacks_nothing : {a : Writing} {c : List ℕ} → l ≡ None → Gives a c (put (text m es) b) → Gives a c (offered es b m)
  unfolding offered
  lacks_nothing q g = rw (← e, q) g

-- ---- the fields: 2

valid_moment : (y n d h i s : ℕ) (o : Option ℤ) {m : Moment} → moment_of y n d h i s o ≡ Ok m → IsMoment m
unfolding moment_of
valid_moment y n d h i s o {m} =
    either (λ (r : Result Moment Field). r ≡ Ok m → IsMoment m) (eqb (moment_fault y n d h i s o) 0) (λ z q. good z q) (λ z q. clash (cc))
  where
    good : eqb (moment_fault y n d h i s o) 0 ≡ true
        → ◌≡◌ {A = Result Moment Field} (Ok (record { date = date y n d; hour = h; minute = i; second = s; offset = o })) (Ok m)
        → IsMoment m
    good z q =
        let e : record { date = date y n d; hour = h; minute = i; second = s; offset = o } ≡ m = cc in
        rw (← e) (eqb-true (moment_fault y n d h i s o) 0 z)

-- where they are a moment, that is valid
pub is_moment : (t : Fields) {r : Result Moment Field} → r ≡ moment_of t.year t.month t.day t.hour t.minute t.second t.offset → {m : Moment}
    → r ≡ Ok m → IsMoment m
is_moment t e q = valid_moment _ _ _ _ _ _ _ (sym e ∙ q)

module _ (t : Fields) where
  with-fields : (rest : Moment → Outcome) (b : List ℕ) {s : Result Moment Field} → fields_moment t ≡ s → for_fields rest b t
      ≡ for_moment rest b s
  unfolding for_fields
  with-fields rest b q = rw q

  module _ (f b : List ℕ) where
    pub too_long_lem : longest < length f → Gives (writing_of (Err FormatTooLong)) b (writing f t b)
    unfolding writing refused writing_of
    too_long_lem h = rw (lt-leb (length f) longest h) (record { result_value = refl; out_after = refl })

    pub bad_moment : {d : Field} → length f ≤ longest → fields_moment t ≡ Err d → Gives (writing_of (Err (BadMoment d))) b (writing f t b)
    unfolding writing for_moment refused writing_of
    bad_moment h q = rw (le-leb (length f) longest h, with-fields (by_format f b) b q) (record { result_value = refl; out_after = refl })

    pub good_moment : {m : Moment} {a : Writing} {c : List ℕ} → fields_moment t ≡ Ok m → Gives a c (moment_writing f m b)
        → Gives a c (writing f t b)
    unfolding writing for_moment moment_writing
    good_moment q g = rw (with-fields (by_format f b) b q) g

  -- ---- elements: 2 and 3

  module _ (es b : List ℕ) where
    pub bad_fields : {d : Field} → fields_moment t ≡ Err d → Gives (writing_of (Err (BadMoment d))) b (elements_writing es t b)
    unfolding elements_writing for_moment refused writing_of
    bad_fields q = rw (with-fields (by_elements es b) b q) (record { result_value = refl; out_after = refl })

    module _ {m : Moment} (q : fields_moment t ≡ Ok m) where
      pub plain_elements : length es ≡ elements_in Reader most_elements es → {a : Writing} {c : List ℕ} → Gives a c (put (text m es) b)
          → Gives a c (elements_writing es t b)
      unfolding elements_writing for_moment by_elements
      plain_elements k g =
          let all = eq-eqb (elements_in Writer most_elements es) (length es) (all_plain most_elements es (sym k)) in
          rw (with-fields (by_elements es b) b q, all, plain_offered es b m (counted_all Reader most_elements es (sym k))) g

      module _ {good : ℕ} (k : good ≡ elements_in Writer most_elements es) where
        pub bad_entry : good < length es → Gives (writing_of (Err (BadConversion good))) b (elements_writing es t b)
        unfolding elements_writing for_moment by_elements refused writing_of
        bad_entry h =
            rw
            (with-fields (by_elements es b) b q, ← k, ne_eqb good (length es) (λ (e : good ≡ length es). omega arith))
            (record { result_value = refl; out_after = refl })

        pub all_elements : {a : Writing} {c : List ℕ} → length es ≤ good → Gives a c (offered es b m)
            → Gives a c (elements_writing es t b)
        unfolding elements_writing for_moment by_elements
        all_elements h g =
            rw
            (with-fields (by_elements es b) b q, ← k, eq-eqb good (length es) (omega (arith, k, counted_within Writer most_elements es))) g
