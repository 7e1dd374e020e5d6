-- The conversions (RULES 4): one row for each letter, with its kind of fact, its form and width, and its range; and the composites, each
-- with its own format.
use Prim.Native.Char.{Char, code}
use Rattle.std.specs.Prelude.{ℕ, Bool, true, false, cond, List, [], ◌∷◌, map, eqb}
use Prim.Native.String.{String}
use Rattle.laws.specs.Bytes.{bytes}
use Rattle.kinds.specs.Kinds as kinds
use Rattle.names.specs.declared.names.Names.TheVariants.{Weekdays, Months, Halves}
use Rattle.conversions.specs.declared.conversions.Conversion.{Conversion}
use Rattle.conversions.specs.declared.conversions.Form.{Form}
use Rattle.conversions.specs.declared.conversions.Form.TheVariants.{Zeros, Blanks, FromSunday, Short, Full, Lower}
use Rattle.conversions.specs.declared.conversions.Form.TheVariants.{Zone, Seconds, Unknown}

-- a byte is one of these
unfoldable pub among : ℕ → List ℕ → Bool
among b [] = false
among b (a ∷ s) = let more = among b s in cond (eqb b a) true more

-- ---- conversions that are read and written themselves

-- a letter and its row
pub record Row : Type 0 where
  pub letter : ℕ
  pub row : Conversion

-- a number: its form, width and range
numeric : Char → ℕ → Form → ℕ → ℕ → ℕ → Row
numeric c k f w l h = record { letter = code c; row = record { kind = k; form = f; width = w; low = l; high = h } }

-- any other, without a width and a range
other : Char → ℕ → Form → Row
other c k f = numeric c k f 0 0 0

unfoldable pub rows : List Row
unfolding numeric other
rows =
    numeric "Y" kinds.year Zeros 4 1 9999
    ∷ numeric "C" kinds.century Zeros 2 0 99
    ∷ numeric "y" kinds.year_in_century Zeros 2 0 99
    ∷ numeric "m" kinds.month Zeros 2 1 12
    ∷ other "b" kinds.month (Short Months)
    ∷ other "h" kinds.month (Short Months)
    ∷ other "B" kinds.month (Full Months)
    ∷ numeric "d" kinds.day Zeros 2 1 31
    ∷ numeric "e" kinds.day Blanks 2 1 31
    ∷ numeric "j" kinds.day_of_year Zeros 3 1 366
    ∷ numeric "u" kinds.weekday Zeros 1 1 7
    ∷ numeric "w" kinds.weekday FromSunday 1 0 6
    ∷ other "a" kinds.weekday (Short Weekdays)
    ∷ other "A" kinds.weekday (Full Weekdays)
    ∷ numeric "U" kinds.sunday_week Zeros 2 0 53
    ∷ numeric "W" kinds.monday_week Zeros 2 0 53
    ∷ numeric "G" kinds.iso_year Zeros 4 1 9999
    ∷ numeric "g" kinds.iso_year_in_century Zeros 2 0 99
    ∷ numeric "V" kinds.iso_week Zeros 2 1 53
    ∷ numeric "H" kinds.hour Zeros 2 0 23
    ∷ numeric "k" kinds.hour Blanks 2 0 23
    ∷ numeric "I" kinds.hour_of_twelve Zeros 2 1 12
    ∷ numeric "l" kinds.hour_of_twelve Blanks 2 1 12
    ∷ other "p" kinds.half_of_day (Full Halves)
    ∷ other "P" kinds.half_of_day (Lower Halves)
    ∷ numeric "M" kinds.minute Zeros 2 0 59
    ∷ numeric "S" kinds.second Zeros 2 0 60
    ∷ other "z" kinds.zone_offset Zone
    ∷ other "s" 0 Seconds
    ∷ []

-- the row of a letter among some rows; a byte that is no conversion's letter has the form Unknown
unfoldable pub find : ℕ → List Row → Conversion
find c [] = record { kind = 0; form = Unknown; width = 0; low = 0; high = 0 }
find c (r ∷ rs) = let more = find c rs in cond (eqb c r.letter) r.row more

unfoldable pub conversion_of : ℕ → Conversion
conversion_of c = find c rows

-- a byte is a conversion's letter
unfoldable pub is_conversion : ℕ → Bool
is_conversion b = among b (map (λ (r : Row). r.letter) rows)

-- a form of digits that are filled
unfoldable pub is_number : Form → Bool
is_number Zeros = true
is_number Blanks = true
is_number FromSunday = true
is_number (Short t) = false
is_number (Full t) = false
is_number (Lower t) = false
is_number Zone = false
is_number Seconds = false
is_number Unknown = false

-- a form of letters, in either case (%p and %P are names too)
unfoldable pub is_name : Form → Bool
is_name Zeros = false
is_name Blanks = false
is_name FromSunday = false
is_name (Short t) = true
is_name (Full t) = true
is_name (Lower t) = true
is_name Zone = false
is_name Seconds = false
is_name Unknown = false

-- ---- composites

-- a letter and its own format
pub record Composite : Type 0 where
  pub letter : ℕ
  pub format : List ℕ

composite : Char → String → Composite
composite c s = record { letter = code c; format = bytes s }

unfoldable pub composites : List Composite
unfolding composite
composites =
    composite "c" "%a %b %e %T %Y"
    ∷ composite "x" "%D"
    ∷ composite "X" "%T"
    ∷ composite "D" "%m/%d/%y"
    ∷ composite "F" "%Y-%m-%d"
    ∷ composite "R" "%H:%M"
    ∷ composite "T" "%H:%M:%S"
    ∷ composite "r" "%I:%M:%S %p"
    ∷ []

-- the own format of a letter among some composites; of any other byte, the empty one
unfoldable pub format_of : ℕ → List Composite → List ℕ
format_of c [] = []
format_of c (x ∷ xs) = let more = format_of c xs in cond (eqb c x.letter) x.format more

unfoldable pub own_format : ℕ → List ℕ
own_format c = format_of c composites

-- a byte is a composite's letter
unfoldable pub is_composite : ℕ → Bool
is_composite b = among b (map (λ (x : Composite). x.letter) composites)

-- everything here, for proofs that compute
unfoldable pub computes : Unit {0}
unfolding bytes among rows find conversion_of is_conversion is_number is_name composites format_of own_format is_composite
computes = tt
