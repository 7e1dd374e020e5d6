-- Demand 3 (RULES 8): the day, then the hour, judged by all facts that bear on it: unsaid, impossible, open with the two earliest shown, or
-- the one that agrees. Days go by their day numbers.
use Rattle.std.specs.Prelude.{ℕ, ◌↔◌, true, ◌≡◌}
use mathlib.Core.List.{List, [], ◌∷◌, Memᴰ as Member}
use Rattle.kinds.specs.Kinds.{day_kinds, hour_kinds, month, weekday, minute, second, zone_offset}
use Rattle.calendar.specs.Calendar.{date_of}
use Rattle.format.specs.Opening.{opening}
use Rattle.format.specs.declared.opening.Side.TheVariants.{Reader}
use Rattle.agreement.specs.Demand.{IsDay, IsHour, Only, Earliest}
use Rattle.strptime.specs.Answers.{reading}
use Rattle.values.specs.Offsets.{is_offset, offset_number}
use Rattle.demands.specs.Facts.{Says, last_form, facts, end_from}
use Rattle.demands.specs.Writes.{WouldWrite, on_day, at_hour}
use Rattle.std.specs.Prelude.{None, Option, Some, ℤ}
use Rattle.calendar.specs.declared.Date.{Date}
use Rattle.strptime.specs.declared.Shown.TheVariants.{Days, Hours}

-- the numbers that the reader looks for before 9, in order
abbrev pub before_nine : List ℕ
before_nine = 1 ∷ 5 ∷ 3 ∷ 6 ∷ 7 ∷ 8 ∷ []

module _ (f s : List ℕ) where
  -- a fact of some kinds is said, and none is
  abbrev pub SomeSaid : List ℕ → Type 0
  SomeSaid ks = (k : ℕ) × (n : ℕ) × Member k ks × Says (facts f s) k n

  abbrev pub NoneSaid : List ℕ → Type 0
  NoneSaid ks = (k n : ℕ) → Member k ks → Says (facts f s) k n → ⊥

  -- a day, and an hour, agree with every fact that bears on them: the writer would write it
  abbrev pub DayAgrees : ℕ → Type 0
  DayAgrees d = (k n : ℕ) → Member k day_kinds → Says (facts f s) k n → WouldWrite k n (on_day d)

  abbrev pub HourAgrees : ℕ → Type 0
  HourAgrees h = (k n : ℕ) → Member k hour_kinds → Says (facts f s) k n → WouldWrite k n (at_hour h)

  -- the day that the facts give: unsaid where none bears on it, or the only one that agrees
  abbrev pub DayIs : Option Date → Type 0
  DayIs None = NoneSaid day_kinds
  DayIs (Some x) = SomeSaid day_kinds × ((d : ℕ) × (x ≡ date_of d) × Only IsDay DayAgrees d)

  -- the hour likewise
  abbrev pub HourIs : Option ℕ → Type 0
  HourIs None = NoneSaid hour_kinds
  HourIs (Some h) = SomeSaid hour_kinds × Only IsHour HourAgrees h

  -- the minute or second likewise, as it was said
  abbrev pub NumberIs : ℕ → Option ℕ → Type 0
  NumberIs k None = (n : ℕ) → Says (facts f s) k n → ⊥
  NumberIs k (Some n) = Says (facts f s) k n

  -- the zone offset likewise, whose number in a fact is 1439 more
  abbrev pub OffsetIs : Option ℤ → Type 0
  OffsetIs None = (n : ℕ) → Says (facts f s) zone_offset n → ⊥
  OffsetIs (Some z) = (is_offset (Some z) ≡ true) × Says (facts f s) zone_offset (offset_number z)

  -- the day is not refused
  abbrev pub DayStands : Type 0
  DayStands = (x : Option Date) × DayIs x

  -- how a matched text is answered: each number exactly in its case
  pub record Answered : Type 0 where
    -- 9: impossible
    pub no_day : (((reading f s).number ≡ 9) × ((reading f s).place ≡ 1))
        ↔ (SomeSaid day_kinds × ((d : ℕ) → IsDay d → DayAgrees d → ⊥))
    -- 10: open, with the earliest two
    pub two_days : (a b : ℕ) → IsDay a → IsDay b
        → (((reading f s).number ≡ 10) × ((reading f s).place ≡ 1) × ((reading f s).shown ≡ Some (Days (date_of a) (date_of b))))
        ↔ (SomeSaid day_kinds × Earliest IsDay DayAgrees a b)
    -- the same for the hour, where the day is not refused
    pub no_hour : (((reading f s).number ≡ 9) × ((reading f s).place ≡ 2))
        ↔ (DayStands × SomeSaid hour_kinds × ((h : ℕ) → IsHour h → HourAgrees h → ⊥))
    pub two_hours : (a b : ℕ)
        → (((reading f s).number ≡ 10) × ((reading f s).place ≡ 2) × ((reading f s).shown ≡ Some (Hours a b)))
        ↔ (DayStands × SomeSaid hour_kinds × Earliest IsHour HourAgrees a b)
    -- 0: done, with exactly the day, hour, minute, second and zone offset that the facts give
    pub done : (x : Option Date) (h m c : Option ℕ) (o : Option ℤ)
        → (((reading f s).number ≡ 0) × ((reading f s).day ≡ x) × ((reading f s).hour ≡ h) × ((reading f s).minute ≡ m)
        × ((reading f s).second ≡ c) × ((reading f s).offset ≡ o))
        ↔ (DayIs x × HourIs h × NumberIs minute m × NumberIs second c × OffsetIs o)
    -- its place is where the last element stopped
    pub unread : (reading f s).number ≡ 0 → (reading f s).place ≡ end_from (opening Reader f).elements s 0
    -- and its forms are those of the last weekday name and of the last month name
    pub forms : (reading f s).number ≡ 0
        → (reading f s).forms ≡ record { weekday = last_form weekday (facts f s); month = last_form month (facts f s) }
