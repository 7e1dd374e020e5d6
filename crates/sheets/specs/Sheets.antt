-- A sheet (RULES 11): its date, and what is said of hour, minute, second and zone offset; which are valid; and its word.
use Rattle.std.specs.Prelude.{ℕ, suc, ◌+◌, ◌-◌, ◌^◌, Bool, cond, ◌&&◌, List, [], ◌∷◌, eqb, get_or}
use Rattle.calendar.specs.Calendar.{date, weekday, iso_year, iso_week}
use Rattle.calendar.specs.Dates.{from_day_number}
use Rattle.calendar.specs.declared.Date.{Date}
use Rattle.strptime.specs.declared.Reading.{Reading}
use Rattle.values.specs.Moments.{moment_fault, field_of}
use Rattle.values.specs.Offsets.{offset_number, offset_of}
use Rattle.values.specs.Values.{day_number_of}
use Rattle.words.specs.Words as words
use Rattle.words.specs.Words.{flag, number_or0, offset_flag, offset_from}
use Rattle.sheets.specs.Packing.{packed, unpacked}
use Rattle.sheets.specs.declared.Sheet.{Sheet}
use Rattle.sheets.specs.declared.SheetFields.{SheetFields}
use Rattle.std.specs.Prelude.{Err, None, Ok, Option, Result, Some, ℤ}
use Rattle.sheets.specs.declared.DateFields.{DateFields}
use Rattle.sheets.specs.declared.Unpackable.TheVariants.{Bad, NoDay}
use Rattle.sheets.specs.declared.Unpackable.{Unpackable}

-- ---- the fields of a sheet's word, from the most significant bit on

-- year 14, month 4, day 5; hour said 1, hour 5; minute said 1, minute 6; second said 1, second 6; offset said 1, offset 12; 8 zero bits
unfoldable pub sheet_widths : List ℕ
sheet_widths = 14 ∷ 4 ∷ 5 ∷ 1 ∷ 5 ∷ 1 ∷ 6 ∷ 1 ∷ 6 ∷ 1 ∷ 12 ∷ 8 ∷ []

-- the number of a zone offset in its field: the offset and 1439 more; an unsaid field is zero
unfoldable pub offset_field : Option ℤ → ℕ
offset_field None = 0
offset_field (Some z) = offset_number z

unfoldable pub fields : Sheet → List ℕ
fields s =
    s.date.year ∷ s.date.month ∷ s.date.day
    ∷ flag s.hour ∷ number_or0 s.hour
    ∷ flag s.minute ∷ number_or0 s.minute
    ∷ flag s.second ∷ number_or0 s.second
    ∷ offset_flag s.offset ∷ offset_field s.offset
    ∷ 0 ∷ []

-- the word of a sheet
unfoldable pub word_of : Sheet → ℕ
word_of s = packed sheet_widths (fields s)

-- ---- and back

unfoldable pub said_from : ℕ → ℕ → Option ℕ
said_from f n = cond (eqb f 0) None (Some n)

unfoldable pub field_offset : ℕ → ℕ → Option ℤ
field_offset f n = cond (eqb f 0) None (offset_of (suc n))

unfoldable pub sheet_from : List ℕ → Sheet
sheet_from ns =
    record {
      date = date (get_or ns 0 0) (get_or ns 1 0) (get_or ns 2 0);
      hour = said_from (get_or ns 3 0) (get_or ns 4 0);
      minute = said_from (get_or ns 5 0) (get_or ns 6 0);
      second = said_from (get_or ns 7 0) (get_or ns 8 0);
      offset = field_offset (get_or ns 9 0) (get_or ns 10 0);
    }

-- the sheet that a word unpacks to, valid or not
unfoldable pub sheet_of : ℕ → Sheet
sheet_of x = sheet_from (unpacked sheet_widths x)

-- ---- valid sheets

-- the first field that is said and not valid, by its place (RULES 2); 0 where there is none: an unsaid hour, minute or second counts as 0
unfoldable pub fault_of : ℕ → ℕ → ℕ → Option ℕ → Option ℕ → Option ℕ → Option ℤ → ℕ
fault_of y m d h n s o = moment_fault y m d (number_or0 h) (number_or0 n) (number_or0 s) o

unfoldable pub is_valid : Sheet → Bool
is_valid s = eqb (fault_of s.date.year s.date.month s.date.day s.hour s.minute s.second s.offset) 0

-- a word is the packing of a sheet exactly if it unpacks to a valid one that packs to it
unfoldable pub is_packing : ℕ → Bool
is_packing x = is_valid (sheet_of x) && eqb (word_of (sheet_of x)) x

unfoldable pub unpacking : ℕ → Option Sheet
unpacking x = cond (is_packing x) (Some (sheet_of x)) None

-- ---- sheets as they come

-- a date that is said, valid or not
abbrev pub year_month_day : ℕ → ℕ → ℕ → DateFields
year_month_day y m d = record { year = y; month = m; day = d }

-- a date that is said, in a sheet with these other fields: its word, or the first bad field
unfoldable pub packing_of : ℕ → ℕ → ℕ → SheetFields → Result ℕ Unpackable
packing_of y m d f =
    let bad = fault_of y m d f.hour f.minute f.second f.offset in
    cond (eqb bad 0)
    (Ok (word_of (record { date = date y m d; hour = f.hour; minute = f.minute; second = f.second; offset = f.offset })))
    (Err (Bad (field_of bad)))

-- 13 where no date is said, then 2
unfoldable pub dated : Option DateFields → SheetFields → Result ℕ Unpackable
dated None f = Err NoDay
dated (Some x) f = packing_of x.year x.month x.day f

unfoldable pub packing : SheetFields → Result ℕ Unpackable
packing f = dated f.date f

-- what a reading says of a sheet; a refused one has no day, hour, minute, second or offset (RULES 3)
unfoldable pub day_fields : Option Date → Option DateFields
day_fields None = None
day_fields (Some t) = Some (year_month_day t.year t.month t.day)

unfoldable pub reading_fields : Reading → SheetFields
reading_fields r =
    record { date = day_fields r.day; hour = r.hour; minute = r.minute; second = r.second; offset = r.offset }

-- what words say of a sheet (RULES 10.4): a date of three zeros is none, and a flag of 0 leaves its field unsaid
unfoldable pub date_from : ℕ → ℕ → ℕ → Option DateFields
date_from y m d = cond (eqb y 0 && (eqb m 0 && eqb d 0)) None (Some (year_month_day y m d))

unfoldable pub fields_from : ℕ → ℕ → ℕ → ℕ → ℕ → ℕ → ℕ → ℕ → ℕ → ℕ → ℕ → SheetFields
fields_from y m d hf h nf n sf s of o =
    record { date = date_from y m d; hour = said_from hf h; minute = said_from nf n; second = said_from sf s; offset = offset_from of o }

abbrev pub words_fields : List ℕ → SheetFields
words_fields ws =
    fields_from (get_or ws 0 0) (get_or ws 1 0) (get_or ws 2 0) (get_or ws 3 0) (get_or ws 4 0) (get_or ws 5 0) (get_or ws 6 0)
    (get_or ws 7 0)
    (get_or ws 8 0) (get_or ws 9 0) (get_or ws 10 0)

-- ---- the week of a sheet

-- ISO year 14 bits, week 6 bits
unfoldable pub week_widths : List ℕ
week_widths = 14 ∷ 6 ∷ []

-- the ISO week of a date, as its year and week
unfoldable pub week_of_date : Date → ℕ
week_of_date t = packed week_widths (iso_year (day_number_of t) ∷ iso_week (day_number_of t) ∷ [])

-- of a word
unfoldable pub week_of : ℕ → ℕ
week_of x = week_of_date (sheet_of x).date

-- the lowest word of a later week, by which a week's words are told without working out each one's week: that of the Monday after, of
-- which nothing else is said, or the highest number where the calendar ends first
unfoldable pub date_word : Date → ℕ
date_word t = packed (14 ∷ 4 ∷ 5 ∷ 41 ∷ []) (t.year ∷ t.month ∷ t.day ∷ 0 ∷ [])

unfoldable pub word_from : Option Date → ℕ
word_from (Some t) = date_word t
word_from None = 2 ^ 64 - 1

unfoldable pub next_week : ℕ → ℕ
next_week x = let k = day_number_of (sheet_of x).date in word_from (from_day_number (k + 8 - weekday k))

-- everything here, and the words of offsets, for proofs that compute
unfoldable pub computes : Unit {0}
unfolding words.computes sheet_widths offset_field fields word_of said_from field_offset sheet_from sheet_of
    fault_of is_valid is_packing unpacking packing_of dated packing day_fields reading_fields date_from fields_from week_widths
    week_of_date week_of
    date_word word_from next_week
computes = tt
