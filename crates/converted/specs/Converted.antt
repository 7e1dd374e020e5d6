-- What a conversion writes for a moment, with a flag and a width (RULES 5).
use Prim.Native.Char.{code}
use Rattle.std.specs.Prelude.{ℕ, max, ◌%◌, cond, List, [], eqb}
use Rattle.names.specs.Case.{cased}
use Rattle.text.specs.Digits.{plain}
use Rattle.text.specs.Fill.{fill}
use Rattle.names.specs.Names.{short}
use Rattle.names.specs.Naming.{name_for}
use Rattle.names.specs.declared.names.Case.{Case}
use Rattle.names.specs.declared.names.Case.TheVariants.{AsIs, Small, Capital}
use Rattle.conversions.specs.declared.conversions.Conversion.{Conversion}
use Rattle.conversions.specs.declared.conversions.Form.{Form}
use Rattle.conversions.specs.declared.conversions.Form.TheVariants.{Zeros, Blanks, FromSunday, Short, Full, Lower, Zone, Seconds, Unknown}
use Rattle.conversions.specs.declared.following.Style.{Style}
use Rattle.values.specs.Values.{value}
use Rattle.values.specs.declared.Moment.{Moment}
use Rattle.converted.specs.Zones as zones
use Rattle.converted.specs.Zones.{zone, epoch_seconds}

-- the byte that fills a number: a blank by _, a zero by 0, otherwise its own
unfoldable pub fill_by : ℕ → ℕ → ℕ
fill_by flag own = cond (eqb flag (code "_")) 32 (cond (eqb flag (code "0")) 48 own)

-- the places that a number is filled to: none by -, otherwise the larger of its own width and the one asked for
unfoldable pub places_by : Style → ℕ → ℕ
places_by y own = cond (eqb y.flag (code "-")) 0 (max own y.width)

-- a number: its digits, filled on the left
unfoldable pub number : Style → ℕ → ℕ → ℕ → List ℕ
number y own w v = fill (fill_by y.flag own) (places_by y w) (plain v)

-- the case of a name: capitals by ^, otherwise its own
unfoldable pub case_by : ℕ → Case → Case
case_by flag own = cond (eqb flag (code "^")) Capital own

-- a name, filled on the left with blanks
unfoldable pub name : Style → Case → List ℕ → List ℕ
name y own s = fill 32 y.width (cased (case_by y.flag own) s)

-- a value of a moment written by a form and its width, with a flag and a width asked for; %z and %s take the moment's offset
unfoldable pub formed : Moment → Style → Form → ℕ → ℕ → List ℕ
formed m y Zeros w v = number y 48 w v
formed m y Blanks w v = number y 32 w v
formed m y FromSunday w v = number y 48 w (v % 7)
formed m y (Short t) w v = name y AsIs (short (name_for t v))
formed m y (Full t) w v = name y AsIs (name_for t v)
formed m y (Lower t) w v = name y Small (name_for t v)
formed m y Zone w v = zone m.offset
formed m y Seconds w v = epoch_seconds m m.offset
formed m y Unknown w v = []

unfoldable pub converted : Style → Conversion → Moment → List ℕ
converted y c m = formed m y c.form c.width (value c.kind m)

-- everything here, for proofs that compute
unfoldable pub computes : Unit {0}
unfolding zones.computes fill_by places_by number case_by name formed converted
computes = tt
