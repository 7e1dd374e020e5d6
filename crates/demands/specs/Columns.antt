-- Flags and widths (RULES 4.4 and 5): what a conversion writes with them, beside what it writes alone; which it takes; and that the reader
-- takes none.
use Prim.Native.Char.{code}
use Rattle.std.specs.Prelude.{ℕ, max, ◌%◌, ◌≤◌, Bool, true, false, cond, ◌||◌, ◌&&◌, List, [], ◌∷◌, ◌++◌, map, ◌≡◌, eqb, length}
use Rattle.laws.specs.Bytes.{bytes}
use Rattle.names.specs.Case.{capital}
use Rattle.text.specs.Digits.{plain}
use Rattle.text.specs.Fill.{fill}
use Rattle.conversions.specs.Conversions.{among, conversion_of}
use Rattle.conversions.specs.Pieces.{unstyled}
use Rattle.format.specs.Opening.{longest}
use Rattle.values.specs.Values.{value}
use Rattle.values.specs.declared.Moment.{Moment}
use Rattle.strftime.specs.Writing as writer
use Rattle.converted.specs.Converted.{converted}
use Rattle.strftime.specs.Writing.{put, writing}
use Rattle.strftime.specs.declared.Fields.{Fields}
use Rattle.strptime.specs.Answers as reader
use Rattle.strptime.specs.Answers.{reading}

-- the letters of numbers, those of them that are filled with blanks, the letters of names, and all others that stand after %
unfoldable pub numbers : List ℕ
numbers = bytes "YCymdejuwUWGgVHkIlMS"

unfoldable pub blanks : List ℕ
blanks = bytes "ekl"

unfoldable pub names : List ℕ
names = bytes "bhBaApP"

unfoldable pub others : List ℕ
others = bytes "cxXDFRTrnt%zs"

-- % with a flag, a width and a letter; a flag or a width is 0 where there is none
unfoldable pub asked : ℕ → List ℕ
asked w = cond (eqb w 0) [] (plain w)

unfoldable pub format : ℕ → ℕ → ℕ → List ℕ
format f w c = code "%" ∷ (cond (eqb f 0) [] (f ∷ []) ++ (asked w ++ (c ∷ [])))

-- a format writes the text x, whatever the buffer
abbrev pub Writes : List ℕ → Fields → List ℕ → Type 0
Writes f t x = (b : List ℕ) → writing f t b ≡ put x b

-- the digits of a number, with none in front; %w counts from Sunday, 0
unfoldable pub digits_of : ℕ → Moment → List ℕ
digits_of c m = let v = value (conversion_of c).kind m in plain (cond (eqb c (code "w")) (v % 7) v)

-- a number of letter c by a flag and a width
unfoldable pub column : ℕ → ℕ → ℕ → Moment → List ℕ
column f w c m =
    let x = digits_of c m in
    let n = max (conversion_of c).width w in
    cond (eqb f (code "-")) x
    (cond (eqb f (code "_")) (fill 32 n x)
    (cond (eqb f (code "0")) (fill 48 n x)
    (fill (cond (among c blanks) 32 48) n x)))

-- a flag that belongs to a letter
unfoldable pub belongs : ℕ → ℕ → Bool
belongs f c = (among c numbers && among f (0 ∷ bytes "_-0")) || (among c names && among f (0 ∷ bytes "^"))

pub record Columns (t : Fields) (m : Moment) (w c : ℕ) : Type 0 where
  -- a number by each flag, and by none
  pub number : among c numbers ≡ true → (f : ℕ) → among f (0 ∷ bytes "_-0") ≡ true → Writes (format f w c) t (column f w c m)
  -- a name as it stands, and in capitals
  pub name : among c names ≡ true → Writes (format 0 w c) t (fill 32 w (converted unstyled (conversion_of c) m))
  pub capitals : among c names ≡ true
      → Writes (format (code "^") w c) t (fill 32 w (map capital (converted unstyled (conversion_of c) m)))
  -- any other flag or width is refused at its %, and every one by the reader
  pub refuses : (f : ℕ) → among f (0 ∷ bytes "_-0^") ≡ true → belongs f c ≡ false → (eqb f 0 && eqb w 0) ≡ false
      → (b : List ℕ) → writing (format f w c) t b ≡ writer.refused 3 0 b
  pub reads_none : (f : ℕ) → among f (0 ∷ bytes "_-0^") ≡ true → (eqb f 0 && eqb w 0) ≡ false
      → (s : List ℕ) → length s ≤ longest → reading (format f w c) s ≡ reader.refused 3 0
