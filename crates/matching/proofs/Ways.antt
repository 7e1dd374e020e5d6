-- Reading an element against its definition, one way out at a time, over plain variables.
-- Assumes nothing.
use Prim.Native.Nat.{ℕ, ◌+◌, ◌≤◌, ◌<◌, min}
use mathlib.Core.Bool.{Bool, true, false, cond, ◌&&◌}
use mathlib.Core.List.{List}
use mathlib.Core.Path.{◌≡◌, sym, ap, ◌∙◌}
use native.Mathlib.Nat.{min-eq_left}
use native.Mathlib.Omega.{arith}
use borrow.Author.Tests.{le-leb, lt-leb, eq-eqb, ne_eqb}
use lib.Dec.{eqb, leb}
use lib.ListN.{length, get_or, drop, length-drop, drop_of_length-le}
use lib.Seq.{drop-cons}
use Rattle.conversions.specs.declared.conversions.Conversion.{Conversion}
use Rattle.conversions.specs.declared.conversions.Form.{Form}
use Rattle.matching.specs.Elements.{ordinary, read_byte, ranged, read_number, named, read_named, read_form, read_conversion}
use Rattle.text.specs.Digits.{digit_run, read_digits}
use Rattle.names.specs.Names.{read_name}
use Rattle.names.specs.Naming.{value_at}
use Rattle.text.specs.Space.{is_space, spaces}
use Rattle.text.specs.declared.digits.Digits.{Digits}
use Rattle.names.specs.declared.names.Names.{Names}
use Rattle.matching.proofs.Lengths.{spaces_most, run_most}
use Rattle.std.specs.Prelude.{Err, None, Ok, Option, Result, Some}
use Rattle.matching.specs.declared.Refused.TheVariants.{Mismatch, Range}
use Rattle.matching.specs.declared.Refused.{Refused}
use Rattle.matching.specs.declared.elements.Item.TheVariants.{Fact, Skip}
use Rattle.matching.specs.declared.elements.Item.{Item}
use Rattle.names.specs.declared.names.NameRead.{NameRead}

-- ---- a byte of the format
module _ (b : ℕ) (s : List ℕ) (at : ℕ) {t : Bool} (e : t ≡ is_space b) where
  pub byte_space : {next : ℕ} → t ≡ true → next ≡ at + spaces (drop at s) → Ok (Skip next) ≡ read_byte b s at
  unfolding read_byte
  byte_space f g = rw (← e, f, g)

  pub byte_end : t ≡ false → length s ≤ at → Err (Mismatch at) ≡ read_byte b s at
  unfolding read_byte ordinary
  byte_end f h = rw (← e, f, drop_of_length-le s h)

  pub byte_other : t ≡ false → at < length s → (get_or s at 0 ≡ b → ⊥) → Err (Mismatch at) ≡ read_byte b s at
  unfolding read_byte ordinary
  byte_other f h g = rw (← e, f, drop-cons s at 0 h, ne_eqb (get_or s at 0) b g)

  pub byte_same : t ≡ false → at < length s → get_or s at 0 ≡ b → Ok (Skip (at + 1)) ≡ read_byte b s at
  unfolding read_byte ordinary
  byte_same f h g = rw (← e, f, drop-cons s at 0 h, eq-eqb (get_or s at 0) b g)

pub ruleset byte_ways = (byte_space, byte_end, byte_other, byte_same)

-- ---- a number
module _
    (c : Conversion) (s : List ℕ) (at : ℕ) (w : c.width ≤ 9) {from : ℕ} {d : Digits}
    (e : from ≡ at + spaces (drop at s)) (g : d ≡ read_digits (min c.width 9) (drop from s))
  where
    abbrev fact : Result Item Refused
    fact = Ok (Fact c.kind d.value None from (from + d.count))

    number_is : read_number c s at
        ≡ cond (eqb d.count 0) (Err (Mismatch from))
        (cond (leb c.low d.value && leb d.value c.high) fact (Err (Range from)))
    unfolding read_number ranged read_digits
    number_is = rw (g, min-eq_left w, e)

    pub number_none : d.count ≡ 0 → Err (Mismatch from) ≡ read_number c s at
    number_none h = sym (number_is ∙ rw (eq-eqb d.count 0 h))

    module _ (h : d.count ≡ 0 → ⊥) where
      pub number_low : d.value < c.low → Err (Range from) ≡ read_number c s at
      number_low l = sym (number_is ∙ rw (ne_eqb d.count 0 h, lt-leb c.low d.value l))

      module _ (l : c.low ≤ d.value) where
        pub number_high : c.high < d.value → Err (Range from) ≡ read_number c s at
        number_high m = sym (number_is ∙ rw (ne_eqb d.count 0 h, le-leb c.low d.value l, lt-leb d.value c.high m))

        pub number_fact : d.value ≤ c.high → fact ≡ read_number c s at
        number_fact m = sym (number_is ∙ rw (ne_eqb d.count 0 h, le-leb c.low d.value l, le-leb d.value c.high m))

    pub number_end : at ≤ length s → from + d.count ≤ length s
    unfolding read_digits
    number_end h =
        let n : d.count ≡ length (digit_run (min c.width 9) (drop from s)) = ap (λ (x : Digits). x.count) g in
        omega (
          arith,
          e,
          n,
          run_most (min c.width 9) (drop from s),
          length-drop from s,
          spaces_most (drop at s),
          length-drop at s,
        )

pub ruleset number_ways = (number_none, number_low, number_high, number_fact)

-- ---- a name
module _ (t : Names) (c : Conversion) (s : List ℕ) (at : ℕ) {r : Option NameRead} (e : r ≡ read_name t (drop at s)) where
  name-is : {x : Option NameRead} → r ≡ x → named t c.kind x at ≡ read_named t c s at
  unfolding read_named
  name-is f = ap (λ (x : Option NameRead). named t c.kind x at) (sym f ∙ e)

  pub name_found : {x : NameRead} {v : ℕ} → r ≡ Some x → v ≡ value_at t x.index
      → Ok (Fact c.kind v (Some x.form) at (at + x.length)) ≡ read_named t c s at
  unfolding named
  name_found g h = rw h (name-is g)

  pub name_none : r ≡ None → Err (Mismatch at) ≡ read_named t c s at
  unfolding named
  name_none f = name-is f

pub ruleset name_ways = (name_found, name_none)

-- ---- a conversion, by its form
pub by_form : (c : Conversion) (s : List ℕ) (at : ℕ) {f : Form} {i : Result Item Refused} → c.form ≡ f → i ≡ read_form f c s at → i
    ≡ read_conversion c s at
unfolding read_conversion
by_form c s at e g = g ∙ ap (λ (f : Form). read_form f c s at) (sym e)
