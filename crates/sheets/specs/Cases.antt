-- Sheets and words worked out (RULES 11.1), each beside what it must be. The words were put together by shifting each number to the bits
-- that the request lists, outside the code, and the weeks are those of Python's date.isocalendar; none is what the code gave.
use Rattle.std.specs.Prelude.{ℕ, ◌+◌, ◌*◌, List, [], ◌∷◌, pos, negsuc}
use Rattle.calendar.specs.Calendar.{date}
use Rattle.strptime.specs.Answers.{reading_of, finished}
use Rattle.strptime.specs.declared.ReadRefusal.TheVariants.{OpenDay, OpenHour}
use Rattle.sheets.specs.Sheets.{packing, unpacking, reading_fields, fields_from, week_of}
use Rattle.sheets.specs.declared.Sheet.{Sheet}
use Rattle.sheets.specs.declared.SheetFields.{SheetFields}
use Rattle.std.specs.Prelude.{Err, None, Ok, Option, Result, Some, ℤ}
use Rattle.sheets.specs.Sheets.{year_month_day}
use Rattle.sheets.specs.declared.DateFields.{DateFields}
use Rattle.sheets.specs.declared.Unpackable.TheVariants.{Bad, NoDay}
use Rattle.sheets.specs.declared.Unpackable.{Unpackable}
use Rattle.values.specs.declared.fields.Field.TheVariants.{Year, Month, Day, Hour, Minute, Second, Offset}

abbrev fields : Option DateFields → Option ℕ → Option ℕ → Option ℕ → Option ℤ → SheetFields
fields t h n s o = record { date = t; hour = h; minute = n; second = s; offset = o }

-- a sheet of 5 March 1934, as fields and as a sheet
abbrev on5_march : Option ℕ → Option ℕ → Option ℕ → Option ℤ → SheetFields
on5_march h n s o = fields (Some (year_month_day 1934 3 5)) h n s o

abbrev sheet5_march : Option ℕ → Option ℕ → Option ℕ → Option ℤ → Sheet
sheet5_march h n s o = record { date = date 1934 3 5; hour = h; minute = n; second = s; offset = o }

unfoldable pub packing_cases : List (Result ℕ Unpackable × Result ℕ Unpackable)
packing_cases =
    -- the year's lowest bit is 2^50, the month's 2^46, the day's 2^41: 2^50 + 2^46 + 2^41
    (packing (fields (Some (year_month_day 1 1 1)) None None None None), Ok 0x0004420000000000)
    ∷ (packing (on5_march None None None None), Ok 0x1e38ca0000000000)
    -- each other field alone, said and 0: its flag, 2^40, 2^34, 2^27 and 2^20, and 1439 * 2^8 for the offset
    ∷ (packing (on5_march (Some 0) None None None), Ok 0x1e38cb0000000000)
    ∷ (packing (on5_march None (Some 0) None None), Ok 0x1e38ca0400000000)
    ∷ (packing (on5_march None None (Some 0) None), Ok 0x1e38ca0008000000)
    ∷ (packing (on5_march None None None (Some (pos 0))), Ok 0x1e38ca0000159f00)
    -- and 1 more each: 2^35, 2^28, 2^21 and 2^8
    ∷ (packing (on5_march (Some 1) None None None), Ok 0x1e38cb0800000000)
    ∷ (packing (on5_march None (Some 1) None None), Ok 0x1e38ca0410000000)
    ∷ (packing (on5_march None None (Some 1) None), Ok 0x1e38ca0008200000)
    ∷ (packing (on5_march None None None (Some (pos 1))), Ok 0x1e38ca000015a000)
    -- the ends of the offset, and all fields, the highest last
    ∷ (packing (on5_march None None None (Some (negsuc 1438))), Ok 0x1e38ca0000100000)
    ∷ (packing (on5_march None None None (Some (pos 1439))), Ok 0x1e38ca00001b3e00)
    ∷ (packing (on5_march (Some 7) (Some 8) (Some 9) (Some (negsuc 29))), Ok 0x1e38cb3c89358100)
    ∷ (packing (on5_march (Some 7) (Some 8) (Some 9) (Some (pos 90))), Ok 0x1e38cb3c8935f900)
    ∷ (packing (fields (Some (year_month_day 9999 12 31)) (Some 23) (Some 59) (Some 60) (Some (pos 1439))), Ok 0x9c3f3fbfbf9b3e00)
    -- 13 before 2, whatever else is not valid
    ∷ (packing (fields None None None None None), Err NoDay)
    ∷ (packing (fields None (Some 24) (Some 60) (Some 61) (Some (pos 1440))), Err NoDay)
    -- 2 at each of its places, with all later fields bad; a date of three zeros that is said is bad
    ∷ (packing (fields (Some (year_month_day 0 0 0)) None None None None), Err (Bad Year))
    ∷ (packing (fields (Some (year_month_day 10000 13 0)) (Some 24) (Some 60) (Some 61) (Some (pos 1440))), Err (Bad Year))
    ∷ (packing (fields (Some (year_month_day 1934 13 0)) (Some 24) (Some 60) (Some 61) (Some (pos 1440))), Err (Bad Month))
    ∷ (packing (fields (Some (year_month_day 1934 2 29)) (Some 24) (Some 60) (Some 61) (Some (pos 1440))), Err (Bad Day))
    ∷ (packing (on5_march (Some 24) (Some 60) (Some 61) (Some (pos 1440))), Err (Bad Hour))
    ∷ (packing (on5_march (Some 23) (Some 60) (Some 61) (Some (pos 1440))), Err (Bad Minute))
    ∷ (packing (on5_march None (Some 59) (Some 61) (Some (negsuc 1439))), Err (Bad Second))
    ∷ (packing (on5_march None None (Some 60) (Some (pos 1440))), Err (Bad Offset))
    ∷ (packing (on5_march None None None (Some (negsuc 1439))), Err (Bad Offset))
    ∷ []

unfoldable pub unpacking_cases : List (Option Sheet × Option Sheet)
unpacking_cases =
    (unpacking 0x1e38ca0000000000, Some (sheet5_march None None None None))
    ∷ (unpacking 0x1e38cb0000000000, Some (sheet5_march (Some 0) None None None))
    ∷ (unpacking 0x1e38ca0480000000, Some (sheet5_march None (Some 8) None None))
    ∷ (unpacking 0x1e38ca0009200000, Some (sheet5_march None None (Some 9) None))
    ∷ (unpacking 0x1e38ca0000159f00, Some (sheet5_march None None None (Some (pos 0))))
    ∷ (unpacking 0x1e38cb3c89358100, Some (sheet5_march (Some 7) (Some 8) (Some 9) (Some (negsuc 29))))
    -- no bits at all, and all of them
    ∷ (unpacking 0x0000000000000000, None)
    ∷ (unpacking 0xffffffffffffffff, None)
    -- 1934-03-05 and the highest or the lowest of the 8 zero bits; the lowest bit of an hour, minute, second or offset that is not said
    ∷ (unpacking 0x1e38ca0000000080, None)
    ∷ (unpacking 0x1e38ca0000000001, None)
    ∷ (unpacking 0x1e38ca0800000000, None)
    ∷ (unpacking 0x1e38ca0010000000, None)
    ∷ (unpacking 0x1e38ca0000200000, None)
    ∷ (unpacking 0x1e38ca0000000100, None)
    -- hour 24, minute 60, second 61, offset 1440; year 0, month 0, day 0, 29 February 1934, year 10000
    ∷ (unpacking 0x1e38cbc000000000, None)
    ∷ (unpacking 0x1e38ca07c0000000, None)
    ∷ (unpacking 0x1e38ca000fa00000, None)
    ∷ (unpacking 0x1e38ca00001b3f00, None)
    ∷ (unpacking 0x0000ca0000000000, None)
    ∷ (unpacking 0x1e380a0000000000, None)
    ∷ (unpacking 0x1e38c00000000000, None)
    ∷ (unpacking 0x1e38ba0000000000, None)
    ∷ (unpacking 0x9c40420000000000, None)
    ∷ []

-- what eleven words say: year, month, day, then hour, minute, second and offset, each after a word that is 0 where it is unsaid
unfoldable pub words_cases : List (SheetFields × SheetFields)
words_cases =
    (fields_from 1934 3 5 1 7 1 8 1 9 1 90, on5_march (Some 7) (Some 8) (Some 9) (Some (pos 90)))
    ∷ (fields_from 1934 3 5 0 7 0 8 0 9 0 90, on5_march None None None None)
    ∷ (fields_from 1934 3 5 2 7 0 8 4294967295 9 0 90, on5_march (Some 7) None (Some 9) None)
    ∷ (fields_from 1934 3 5 0 7 7 8 0 9 9 4294967266, on5_march None (Some 8) None (Some (negsuc 29)))
    -- only three zeros are no date
    ∷ (fields_from 0 0 0 1 7 0 0 0 0 0 0, fields None (Some 7) None None None)
    ∷ (fields_from 1934 0 0 0 0 0 0 0 0 0 0, fields (Some (year_month_day 1934 0 0)) None None None None)
    ∷ (fields_from 0 3 0 0 0 0 0 0 0 0 0, fields (Some (year_month_day 0 3 0)) None None None None)
    ∷ (fields_from 0 0 5 0 0 0 0 0 0 0 0, fields (Some (year_month_day 0 0 5)) None None None None)
    ∷ []

-- what a reading says: it may say no day; one that is refused says nothing, whatever days or hours it shows
unfoldable pub reading_cases : List (SheetFields × SheetFields)
reading_cases = (
  reading_fields (finished 21 (Some (date 1934 3 5)) (Some 7) (Some 8) None (Some (negsuc 29))),
  on5_march (Some 7) (Some 8) None (Some (negsuc 29)),
)
    ∷ (
      reading_fields (finished 4 None None (Some 8) (Some 9) None),
      fields None None (Some 8) (Some 9) None,
    )
    ∷ (reading_fields (reading_of (Err (OpenDay (date 1934 3 5) (date 1935 3 5) 36))), fields None None None None None)
    ∷ (reading_fields (reading_of (Err (OpenHour 7 19 1))), fields None None None None None)
    ∷ []

-- weeks are 64 times the ISO year, and the week
unfoldable pub week_cases : List (ℕ × ℕ)
week_cases =
    -- the first day, a Monday, and the last, a Friday
    (week_of 0x0004420000000000, 1 * 64 + 1)
    ∷ (week_of 0x9c3f3fbfbf9b3e00, 9999 * 64 + 52)
    -- a Monday to a Sunday are one week: 1934-03-04, 05, 05 with the highest of all else said, 11 and 12
    ∷ (week_of 0x1e38c80000000000, 1934 * 64 + 9)
    ∷ (week_of 0x1e38ca0000000000, 1934 * 64 + 10)
    ∷ (week_of 0x1e38cbbfbf9b3e00, 1934 * 64 + 10)
    ∷ (week_of 0x1e38d60000000000, 1934 * 64 + 10)
    ∷ (week_of 0x1e38d80000000000, 1934 * 64 + 11)
    -- the Thursday's year: 1934-12-31 is in 1935 and 2008-12-29 in 2009; 2010-01-01 and 03 in 2009, 04 not; 2017-01-01 in 2016, 02 not
    ∷ (week_of 0x1e3b3e0000000000, 1935 * 64 + 1)
    ∷ (week_of 0x1f633a0000000000, 2009 * 64 + 1)
    ∷ (week_of 0x1f68420000000000, 2009 * 64 + 53)
    ∷ (week_of 0x1f68460000000000, 2009 * 64 + 53)
    ∷ (week_of 0x1f68480000000000, 2010 * 64 + 1)
    ∷ (week_of 0x1f84420000000000, 2016 * 64 + 52)
    ∷ (week_of 0x1f84440000000000, 2017 * 64 + 1)
    ∷ []
