-- A writing where nothing is refused, and a writing by elements that were opened before.
-- Assumes nothing.
use Prim.Native.Nat.{ℕ, ◌≤◌}
use mathlib.Core.Bool.{true}
use mathlib.Core.List.{List, ◌++◌}
use mathlib.Core.Path.{◌≡◌, ap, ◌∙◌, fun_ext}
use borrow.Author.Tests.{le-leb, eq-eqb}
use lib.ListN.{length, drop}
use lib.Seq.{sets, take_all}
use Rattle.std.specs.Prelude.{None}
use Rattle.laws.specs.Lists.{every}
use Rattle.laws.proofs.Stores.{sets_start}
use Rattle.format.specs.Opening.{opening, longest, most_elements, elements_in, is_byte}
use Rattle.format.specs.Opening.Ended.{Whole}
use Rattle.format.specs.declared.opening.Side.TheVariants.{Writer}
use Rattle.format.proofs.Elements.{all_elements}
use Rattle.values.specs.Moments.{moment_of}
use Rattle.values.specs.declared.Moment.{Moment}
use Rattle.strftime.specs.Writing.{Outcome, text, numbered, put, lacking, offered, by_format, by_elements, for_moment, for_fields}
use Rattle.strftime.specs.Writing.{writing, elements_writing}
use Rattle.strftime.specs.declared.Fields.{Fields}
use Rattle.std.specs.Prelude.{Ok}

-- a format that opens whole, and fields that are a moment which lacks nothing
module _ (f : List ℕ) (t : Fields) (b : List ℕ) {m : Moment} (short : length f ≤ longest) (whole : (opening Writer f).ended ≡ Whole)
    (valid : moment_of t.year t.month t.day t.hour t.minute t.second t.offset ≡ Ok m)
    (has : lacking m.offset (opening Writer f).elements ≡ None) where
  abbrev written : List ℕ
  written = text m (opening Writer f).elements

  -- 4 or 0
  pub puts_text : writing f t b ≡ put written b
  unfolding writing for_fields for_moment by_format offered
  puts_text = rw (le-leb (length f) longest short, valid, whole, has)

  -- where there is room: 0, the bytes written, and every other byte of the buffer as it came
  module _ (room : length written ≤ length b) where
    pub done : writing f t b ≡ record { answer = numbered 0 (length written); buffer = sets b 0 written }
    unfolding put
    done = rw (puts_text, le-leb (length written) (length b) room)

    pub answers : (writing f t b).answer ≡ numbered 0 (length written)
    answers = ap (λ (w : Outcome). w.answer) done

    pub holds : (writing f t b).buffer ≡ written ++ drop (length written) b
    holds = ap (λ (w : Outcome). w.buffer) done ∙ rw (sets_start b written, take_all (length b) written room)

-- ---- elements opened before

module _ (f : List ℕ) (short : length f ≤ longest) (bytes : every is_byte f ≡ true) (whole : (opening Writer f).ended ≡ Whole) where
  by-format : (b : List ℕ) (m : Moment) → by_elements (opening Writer f).elements b m ≡ by_format f b m
  unfolding by_elements by_format
  by-format b m =
      let es = (opening Writer f).elements in
      rw (eq-eqb (elements_in Writer most_elements es) (length es) (all_elements Writer f short bytes), whole)

  -- a writing by the elements of a format is the writing by the format
  pub opened_before : (t : Fields) (b : List ℕ) → elements_writing (opening Writer f).elements t b ≡ writing f t b
  unfolding elements_writing writing
  opened_before t b =
      rw (le-leb (length f) longest short) (ap (λ (rest : Moment → Outcome). for_fields rest b t) (fun_ext (by-format b)))
