-- The value of kinds 1 to 17 of facts (RULES 5, RULES 7): what the writer writes and agreement compares.
-- The kinds in order are the values of the conversions Y, C, y, m, d, j, u, U, W, G, g, V, H, I, p, M and S.
use Rattle.std.specs.Prelude.{ℕ, ◌/◌, ◌%◌, cond, List, [], ◌∷◌, eqb, leb, get_or}
use Rattle.calendar.specs.Calendar.{day_of_year, day_number, weekday, sunday_week, monday_week, iso_year, iso_week}
use Rattle.calendar.specs.declared.Date.{Date}
use Rattle.kinds.specs.Kinds as kinds
use Rattle.values.specs.declared.Moment.{Moment}

-- the day number of a date
abbrev pub day_number_of : Date → ℕ
day_number_of t = day_number t.year t.month t.day

-- there is no kind 0
abbrev pub none : Date → ℕ
none t = 0

-- at each kind's number, from none to iso_week
unfoldable pub date_values : List (Date → ℕ)
date_values =
    none
    ∷ (λ t. t.year)
    ∷ (λ t. t.year / 100)
    ∷ (λ t. t.year % 100)
    ∷ (λ t. t.month)
    ∷ (λ t. t.day)
    ∷ (λ t. day_of_year t.year t.month t.day)
    ∷ (λ t. weekday (day_number_of t))
    ∷ (λ t. sunday_week t.year t.month t.day)
    ∷ (λ t. monday_week t.year t.month t.day)
    ∷ (λ t. iso_year (day_number_of t))
    ∷ (λ t. iso_year (day_number_of t) % 100)
    ∷ (λ t. iso_week (day_number_of t))
    ∷ []

-- the value of kind k, one that bears on the day, for a date
unfoldable pub date_value : ℕ → Date → ℕ
date_value k t = get_or date_values k none t

-- the remainder by 12, with 12 in place of 0
unfoldable pub hour_of_twelve : ℕ → ℕ
hour_of_twelve h = cond (eqb (h % 12) 0) 12 (h % 12)

-- AM, 0, before hour 12; PM, 1, from there on
unfoldable pub half_of_day : ℕ → ℕ
half_of_day h = cond (leb 12 h) 1 0

-- the value of kind k, one that bears on the hour, for an hour
unfoldable pub hour_value : ℕ → ℕ → ℕ
hour_value k h =
    cond (eqb k kinds.hour) h
    (cond (eqb k kinds.hour_of_twelve) (hour_of_twelve h)
    (cond (eqb k kinds.half_of_day) (half_of_day h) 0))

-- the value of kind k for a moment, 0 where there is none
unfoldable pub value : ℕ → Moment → ℕ
value k m =
    cond (leb k kinds.iso_week) (date_value k m.date)
    (cond (leb k kinds.half_of_day) (hour_value k m.hour)
    (cond (eqb k kinds.minute) m.minute
    (cond (eqb k kinds.second) m.second 0)))

-- everything here, for proofs that compute
unfoldable pub computes : Unit {0}
unfolding date_values date_value hour_of_twelve half_of_day hour_value value
computes = tt
