-- Zone offsets (RULES 2): minutes east of UTC, -1439 to 1439, or unsaid; as a fact (RULES 7); and the seconds of %s (RULES 5).
use Rattle.std.specs.Prelude.{ℕ, Bool, true, cond, not, ◌&&◌, leb, ℤ, pos, nat_abs, ◌+ℤ◌, ◌-ℤ◌, ◌*ℤ◌}
use Rattle.std.specs.Int.Signed.{non_neg}
use Rattle.values.specs.Values.{day_number_of}
use Rattle.values.specs.declared.Moment.{Moment}
use Rattle.std.specs.Prelude.{None, Option, Some}

abbrev pub is_negative : ℤ → Bool
is_negative z = not (non_neg z)

-- the most minutes of an offset, east or west
abbrev pub most_offset : ℕ
most_offset = 1439

-- an offset that is said lies from -1439 to 1439
unfoldable pub is_offset : Option ℤ → Bool
is_offset None = true
is_offset (Some east) = leb (nat_abs east) most_offset

-- The number of a fact is not negative: that of kind 18 is the offset and 1439 more, from 0 to 2878.
unfoldable pub offset_number : ℤ → ℕ
offset_number east = nat_abs (east +ℤ pos most_offset)

-- the offset that was said of kind 18, where 0 is nothing and all else is one more than its number; no element says more than 2879
unfoldable pub offset_of : ℕ → Option ℤ
offset_of s = cond (leb 1 s && leb s 2879) (Some (pos s -ℤ pos 1440)) None

-- the day number of 1970-01-01 (proofs/Seconds.antt)
abbrev pub epoch : ℕ
epoch = 719163

-- whole seconds from 1970-01-01 00:00:00 UTC: the offset is taken off, and second 60 counts as the next second
unfoldable pub seconds : Moment → ℤ → ℤ
seconds m east =
    pos 86400 *ℤ (pos (day_number_of m.date) -ℤ pos epoch)
    +ℤ pos 3600 *ℤ pos m.hour
    +ℤ pos 60 *ℤ (pos m.minute -ℤ east)
    +ℤ pos m.second

-- everything here, for proofs that compute
unfoldable pub computes : Unit {0}
unfolding is_offset offset_number offset_of seconds
computes = tt
