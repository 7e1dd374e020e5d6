-- What the private functions of the code ask and answer.
use Rattle.std.specs.Prelude.{ℕ, ◌^◌, ◌≤◌, ◌<◌, true, cond, List, Result, ◌≡◌, leb, length}
use Rattle.conversions.specs.Conversions.{is_number}
use Rattle.format.specs.Opening.{longest}
use Rattle.conversions.specs.declared.conversions.Conversion.{Conversion}
use Rattle.values.specs.Moments.{moment_fault, moment_of}
use Rattle.values.specs.Values.{value}
use Rattle.values.specs.declared.Moment.{Moment}
use Rattle.format.specs.declared.opening.Unopened.{Unopened}
use Rattle.format.specs.declared.opening.Unopened.TheVariants.{TooLong, Bad}
use Rattle.strftime.specs.declared.Fields.{Fields}
use Rattle.strftime.specs.declared.WriteRefusal.{WriteRefusal}
use Rattle.strftime.specs.declared.WriteRefusal.TheVariants.{FormatTooLong, BadConversion}
use Rattle.strftime.specs.Writing.{Outcome, refused, by_format}
use Rattle.values.specs.declared.fields.Field.{Field}

-- the moment with some fields, or the first bad one
abbrev pub fields_moment : Fields → Result Moment Field
fields_moment t = moment_of t.year t.month t.day t.hour t.minute t.second t.offset

-- a valid moment written by a format: 1, 3, 12, 4
unfoldable pub moment_writing : List ℕ → Moment → List ℕ → Outcome
moment_writing f m b =
    let rest = by_format f b m in
    cond (leb (length f) longest) rest (refused 1 0 b)

-- a moment is valid
abbrev pub IsMoment : Moment → Type 0
IsMoment m = moment_fault m.date.year m.date.month m.date.day m.hour m.minute m.second m.offset ≡ 0

-- where a conversion is a number, its value has no more digits than its width
abbrev pub HasRoom : Conversion → Moment → Type 0
HasRoom c m = is_number c.form ≡ true → (1 ≤ c.width) × (value c.kind m < 10 ^ c.width)

-- why a format that does not open is not written
abbrev pub unopened_refusal : Unopened → WriteRefusal
unopened_refusal TooLong = FormatTooLong
unopened_refusal (Bad p) = BadConversion p
