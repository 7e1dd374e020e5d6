-- What is owed of sheets and their words (RULES 11.1), as statements about the definitions; the proofs are in proofs/Rules.antt.
use Rattle.std.specs.Prelude.{ℕ, ◌^◌, ◌<◌, ◌≤◌, true, ◌⊎◌, ◌≡◌, drop}
use Rattle.calendar.specs.Calendar.{iso_year, iso_week}
use Rattle.values.specs.Values.{day_number_of}
use Rattle.sheets.specs.Packing.{packed}
use Rattle.sheets.specs.Sheets.{sheet_widths, fields, word_of, is_valid, is_packing, unpacking, packing, week_of_date}
use Rattle.sheets.specs.declared.Sheet.{Sheet}
use Rattle.sheets.specs.declared.SheetFields.{SheetFields}
use Rattle.std.specs.Prelude.{Ok, Some}
use Rattle.sheets.specs.Sheets.{year_month_day}

-- all fields of a sheet's word but the date
unfoldable pub rest_of : Sheet → ℕ
rest_of s = packed (drop 3 sheet_widths) (drop 3 (fields s))

-- the order of dates, then of the rest as packed
unfoldable pub Before : Sheet → Sheet → Type 0
Before s t = (day_number_of s.date < day_number_of t.date) ⊎ ((s.date ≡ t.date) × (rest_of s < rest_of t))

-- a sheet's own fields
abbrev pub fields_of : Sheet → SheetFields
fields_of s =
    record {
      date = Some (year_month_day s.date.year s.date.month s.date.day);
      hour = s.hour;
      minute = s.minute;
      second = s.second;
      offset = s.offset;
    }

pub record SheetRules : Type 0 where
  -- a valid sheet packs to a word of 64 bits that unpacks to it
  pub packs : (s : Sheet) → is_valid s ≡ true → (word_of s < 2 ^ 64) × (unpacking (word_of s) ≡ Some s)
  -- what a word unpacks to is a valid sheet that packs to it
  pub unpacks : (x : ℕ) (s : Sheet) → unpacking x ≡ Some s → (is_valid s ≡ true) × (word_of s ≡ x)
  -- packing answers the word of a valid sheet, and no other word
  pub answers : (s : Sheet) → is_valid s ≡ true → packing (fields_of s) ≡ Ok (word_of s)
  pub packings : (f : SheetFields) (x : ℕ) → packing f ≡ Ok x → is_packing x ≡ true
  -- the order of words is the order of dates, then of the rest as packed
  pub ordered : (s t : Sheet) → is_valid s ≡ true → is_valid t ≡ true
      → (word_of s < word_of t → Before s t) × (Before s t → word_of s < word_of t)
  -- sheets of one week have one ISO year and week, as by the definition those of one year and week are of one week; weeks follow words
  pub one_week : (s t : Sheet) → is_valid s ≡ true → is_valid t ≡ true → week_of_date s.date ≡ week_of_date t.date
      → (iso_year (day_number_of s.date) ≡ iso_year (day_number_of t.date))
      × (iso_week (day_number_of s.date) ≡ iso_week (day_number_of t.date))
  pub weeks : (s t : Sheet) → is_valid s ≡ true → is_valid t ≡ true → word_of s ≤ word_of t
      → week_of_date s.date ≤ week_of_date t.date
