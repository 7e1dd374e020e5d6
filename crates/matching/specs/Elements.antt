-- Reading one element of a format (RULES 6).
use Rattle.std.specs.Prelude.{ℕ, ◌+◌, cond, ◌&&◌, List, [], ◌∷◌, eqb, leb, length, drop}
use Rattle.conversions.specs.Conversions.{conversion_of}
use Rattle.format.specs.Opening.{is_byte, letter_of}
use Rattle.conversions.specs.declared.conversions.Conversion.{Conversion}
use Rattle.conversions.specs.declared.conversions.Form.{Form}
use Rattle.conversions.specs.declared.conversions.Form.TheVariants.{Zeros, Blanks, FromSunday, Short, Full, Lower, Zone, Seconds, Unknown}
use Rattle.matching.specs.Zones as zones
use Rattle.matching.specs.Zones.{read_zone}
use Rattle.text.specs.Digits.{digit_run, decimal}
use Rattle.names.specs.Names.{read_name}
use Rattle.names.specs.Naming.{value_at}
use Rattle.text.specs.Space.{is_space, spaces}
use Rattle.names.specs.declared.names.Names.{Names}
use Rattle.std.specs.Prelude.{Err, None, Ok, Option, Result, Some}
use Rattle.matching.specs.declared.Refused.TheVariants.{Mismatch, Range}
use Rattle.matching.specs.declared.Refused.{Refused}
use Rattle.matching.specs.declared.elements.Item.TheVariants.{Fact, Skip}
use Rattle.matching.specs.declared.elements.Item.{Item}
use Rattle.names.specs.declared.names.NameRead.{NameRead}

-- an ordinary byte of the format must be the next byte of the text
unfoldable pub ordinary : ℕ → List ℕ → ℕ → Result Item Refused
ordinary b [] at = Err (Mismatch at)
ordinary b (c ∷ s) at = cond (eqb c b) (Ok (Skip (at + 1))) (Err (Mismatch at))

-- a byte of the format: white space takes all the white space that stands there, also none
unfoldable pub read_byte : ℕ → List ℕ → ℕ → Result Item Refused
read_byte b s at = cond (is_space b) (Ok (Skip (at + spaces (drop at s)))) (ordinary b (drop at s) at)

-- digits found at an offset: at least one, and in range; a number is no name
unfoldable pub ranged : Conversion → List ℕ → ℕ → Result Item Refused
ranged c ds from =
    let v = decimal 0 ds in
    cond (eqb (length ds) 0) (Err (Mismatch from))
    (cond (leb c.low v && leb v c.high) (Ok (Fact c.kind v None from (from + length ds))) (Err (Range from)))

-- a number: white space before it is skipped, then as many digits as stand there are taken, at most as many as its width
unfoldable pub read_number : Conversion → List ℕ → ℕ → Result Item Refused
read_number c s at =
    let from = at + spaces (drop at s) in
    ranged c (digit_run c.width (drop from s)) from

-- 0 by %w is Sunday, 7
unfoldable pub from_sunday : Result Item Refused → Result Item Refused
from_sunday (Ok (Skip next)) = Ok (Skip next)
from_sunday (Ok (Fact k n f from next)) = Ok (Fact k (cond (eqb n 0) 7 n) f from next)
from_sunday (Err why) = Err why

-- a name, which must stand right there, in one of its forms
unfoldable pub named : Names → ℕ → Option NameRead → ℕ → Result Item Refused
named t k (Some r) at = Ok (Fact k (value_at t r.index) (Some r.form) at (at + r.length))
named t k None at = Err (Mismatch at)

unfoldable pub read_named : Names → Conversion → List ℕ → ℕ → Result Item Refused
read_named t c s at = named t c.kind (read_name t (drop at s)) at

-- by its form; %s is not read
unfoldable pub read_form : Form → Conversion → List ℕ → ℕ → Result Item Refused
read_form Zeros c s at = read_number c s at
read_form Blanks c s at = read_number c s at
read_form FromSunday c s at = from_sunday (read_number c s at)
read_form (Short t) c s at = read_named t c s at
read_form (Full t) c s at = read_named t c s at
read_form (Lower t) c s at = read_named t c s at
read_form Zone c s at = read_zone c s at
read_form Seconds c s at = Err (Mismatch at)
read_form Unknown c s at = Err (Mismatch at)

unfoldable pub read_conversion : Conversion → List ℕ → ℕ → Result Item Refused
read_conversion c s at = read_form c.form c s at

-- an element at an offset of a text
unfoldable pub read_element : ℕ → List ℕ → ℕ → Result Item Refused
read_element e s at = cond (is_byte e) (read_byte e s at) (read_conversion (conversion_of (letter_of e)) s at)

-- everything here, for proofs that compute
unfoldable pub computes : Unit {0}
unfolding zones.computes ordinary read_byte ranged read_number from_sunday named read_named read_form read_conversion read_element
computes = tt
