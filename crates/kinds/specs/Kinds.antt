-- The kinds of fact, by their numbers (RULES 7).
use Rattle.std.specs.Prelude.{ℕ, List, [], ◌∷◌}

abbrev pub year : ℕ
year = 1

abbrev pub century : ℕ
century = 2

abbrev pub year_in_century : ℕ
year_in_century = 3

abbrev pub month : ℕ
month = 4

abbrev pub day : ℕ
day = 5

abbrev pub day_of_year : ℕ
day_of_year = 6

abbrev pub weekday : ℕ
weekday = 7

abbrev pub sunday_week : ℕ
sunday_week = 8

abbrev pub monday_week : ℕ
monday_week = 9

abbrev pub iso_year : ℕ
iso_year = 10

abbrev pub iso_year_in_century : ℕ
iso_year_in_century = 11

abbrev pub iso_week : ℕ
iso_week = 12

abbrev pub hour : ℕ
hour = 13

abbrev pub hour_of_twelve : ℕ
hour_of_twelve = 14

abbrev pub half_of_day : ℕ
half_of_day = 15

abbrev pub minute : ℕ
minute = 16

abbrev pub second : ℕ
second = 17

abbrev pub zone_offset : ℕ
zone_offset = 18

-- how many entries a list has that is indexed by kind; there is no kind 0
abbrev pub kinds : ℕ
kinds = 19

-- which bear on the day, and which on the hour; minute, second and zone offset bear on neither
unfoldable pub day_kinds : List ℕ
day_kinds =
    year
    ∷ century
    ∷ year_in_century
    ∷ month
    ∷ day
    ∷ day_of_year
    ∷ weekday
    ∷ sunday_week
    ∷ monday_week
    ∷ iso_year
    ∷ iso_year_in_century
    ∷ iso_week
    ∷ []

unfoldable pub hour_kinds : List ℕ
hour_kinds = hour ∷ hour_of_twelve ∷ half_of_day ∷ []

-- everything here, for proofs that compute
unfoldable pub computes : Unit {0}
unfolding day_kinds hour_kinds
computes = tt
