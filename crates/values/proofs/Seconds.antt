-- The sum of %s, step by step: what is worked out in 64 bits is the number that is meant.
-- Assumes nothing.
use Prim.Native.Nat.{ℕ, ◌+◌, ◌*◌, ◌^◌, ◌≤◌, ◌<◌}
use mathlib.Core.Path.{◌≡◌, refl, ap, ◌∙◌}
use native.Mathlib.Nat.{mul-le-mul_left}
use native.Mathlib.Omega.{arith}
use lib.Dec.{lit<}
use lib.IntN.{ℤ, pos, nat_abs, ◌+ℤ◌, ◌-ℤ◌, ◌*ℤ◌}
use lib.Signed.{mag, nat_abs-le}
use mir.Facts.{to_z-of_z, to_z_pos}
use mir.Syntax.{w32, w64}
use mir.Val.{SFits, to_z, of_z}
use Rattle.calendar.specs.Calendar as calendar
use Rattle.calendar.specs.Calendar.{day_number}
use Rattle.calendar.proofs.Dates.{number_within, last_day}
use Rattle.values.specs.Offsets.{epoch, most_offset, seconds}
use Rattle.values.specs.Values.{day_number_of}
use Rattle.values.specs.declared.Moment.{Moment}
use Rattle.values.proofs.Ranges.{ValidMoment}
use Rattle.values.proofs.Signed.{abs_add, abs_sub, abs_times, near_fits}

-- what is worked out, x, is the number y, which lies at most k from zero
pub record Near (x y : ℤ) (k : ℕ) : Type 0 where
  pub same : x ≡ y
  pub most : nat_abs y ≤ k

pub fits : {x y : ℤ} {k : ℕ} → Near x y k → k < 2 ^ 63 → SFits w64 x
fits {x} {y} {k} n h = rw n.same (near_fits y (omega (arith, n.most)))

pub small : {x y : ℤ} {k n : ℕ} → Near x y k → k < n → nat_abs x < n
small a h = rw a.same (omega (arith, a.most))

-- a number, stored and loaded
pub kept : {x y : ℤ} {k : ℕ} → Near x y k → k < 2 ^ 63 → Near (to_z w64 (of_z w64 x)) y k
kept n h = record { same = to_z-of_z (fits n h) ∙ n.same; most = n.most }

natural : (n k : ℕ) → n ≤ k → k < 2 ^ 63 → Near (to_z w64 n) (pos n) k
natural n k l h = record { same = to_z_pos w64 (omega arith); most = l }

plus : {x y u v : ℤ} {k l : ℕ} → Near x y k → Near u v l → Near (x +ℤ u) (y +ℤ v) (k + l)
plus {x} {y} {u} {v} a b =
    record { same = rw (a.same, b.same); most = omega (arith, a.most, b.most, abs_add y v) }

minus : {x y u v : ℤ} {k l : ℕ} → Near x y k → Near u v l → Near (x -ℤ u) (y -ℤ v) (k + l)
minus {x} {y} {u} {v} a b =
    record { same = rw (a.same, b.same); most = omega (arith, a.most, b.most, abs_sub y v) }

literal : {n : ℕ} → Near (pos n) (pos n) n
literal = record { same = refl; most = omega arith }

-- an offset of 32 bits
pub widened : (z : ℤ) → mag z < 2 ^ 31 → Near (to_z w32 (of_z w32 z)) z (2 ^ 31)
widened z h = record { same = to_z-of_z {w = w32} (record { sfits = h }); most = nat_abs-le z h }

times : (c : ℕ) {x y : ℤ} {k : ℕ} → Near x y k → Near (pos c *ℤ x) (pos c *ℤ y) (c * k)
times c {x} {y} {k} a =
    record { same = rw a.same; most = rw (abs_times c y) (mul-le-mul_left c a.most) }

-- a number of the machine, stored and loaded
abbrev stored : ℤ → ℤ
stored x = to_z w64 (of_z w64 x)

-- ---- what is worked out: days and minutes, and then the sum from left to right

module _ (day : ℕ) (d : day < 2 ^ 32) where
  pub days_near : Near (to_z w64 day -ℤ pos 719163) (pos day -ℤ pos 719163) (2 ^ 32 + 719163)
  days_near = minus (natural day (2 ^ 32) (omega arith) (lit< tt)) (literal {n = 719163})

  pub day_seconds : Near (pos 86400 *ℤ stored (to_z w64 day -ℤ pos 719163)) (pos 86400 *ℤ (pos day -ℤ pos 719163))
      (86400 * (2 ^ 32 + 719163))
  day_seconds = times 86400 (kept days_near (lit< tt))

module _ (hour : ℕ) (h : hour < 2 ^ 8) where
  pub hour_seconds : Near (pos 3600 *ℤ to_z w64 hour) (pos 3600 *ℤ pos hour) (3600 * 2 ^ 8)
  hour_seconds = times 3600 (natural hour (2 ^ 8) (omega arith) (lit< tt))

module _ (minute : ℕ) (east : ℤ) (n : minute < 2 ^ 8) (f : SFits w32 east) where
  pub minutes_near : Near (to_z w64 minute -ℤ stored (to_z w32 (of_z w32 east))) (pos minute -ℤ east) (2 ^ 8 + 2 ^ 31)
  minutes_near = minus (natural minute (2 ^ 8) (omega arith) (lit< tt)) (kept (widened east f.sfits) (lit< tt))

  pub minute_seconds : Near (pos 60 *ℤ stored (to_z w64 minute -ℤ stored (to_z w32 (of_z w32 east)))) (pos 60 *ℤ (pos minute -ℤ east))
      (60 * (2 ^ 8 + 2 ^ 31))
  minute_seconds = times 60 (kept minutes_near (lit< tt))

module _
    {x₁ x₂ x₃ y₁ y₂ y₃ : ℤ}
    (days : Near x₁ y₁ (86400 * (2 ^ 32 + 719163)))
    (hours : Near x₂ y₂ (3600 * 2 ^ 8))
    (minutes : Near x₃ y₃ (60 * (2 ^ 8 + 2 ^ 31)))
    (second : ℕ)
    (s : second < 2 ^ 8)
  where
    pub to_hours : Near (stored x₁ +ℤ stored x₂) (y₁ +ℤ y₂) (86400 * (2 ^ 32 + 719163) + 3600 * 2 ^ 8)
    to_hours = plus (kept days (lit< tt)) (kept hours (lit< tt))

    pub to_minutes : Near (stored (stored x₁ +ℤ stored x₂) +ℤ stored x₃) (y₁ +ℤ y₂ +ℤ y₃)
        (86400 * (2 ^ 32 + 719163) + 3600 * 2 ^ 8 + 60 * (2 ^ 8 + 2 ^ 31))
    to_minutes = plus (kept to_hours (lit< tt)) (kept minutes (lit< tt))

    pub to_seconds : Near (stored (stored (stored x₁ +ℤ stored x₂) +ℤ stored x₃) +ℤ to_z w64 second) (y₁ +ℤ y₂ +ℤ y₃ +ℤ pos second)
        (86400 * (2 ^ 32 + 719163) + 3600 * 2 ^ 8 + 60 * (2 ^ 8 + 2 ^ 31) + 2 ^ 8)
    to_seconds = plus (kept to_minutes (lit< tt)) (natural second (2 ^ 8) (omega arith) (lit< tt))

pub sum_is : (m : Moment) (east : ℤ) {day : ℕ} → day ≡ day_number_of m.date
    → pos 86400 *ℤ (pos day -ℤ pos 719163) +ℤ pos 3600 *ℤ pos m.hour +ℤ pos 60 *ℤ (pos m.minute -ℤ east) +ℤ pos m.second
    ≡ seconds m east
unfolding seconds
sum_is m east e =
    ap
    (λ (d : ℕ). pos 86400 *ℤ (pos d -ℤ pos 719163) +ℤ pos 3600 *ℤ pos m.hour +ℤ pos 60 *ℤ (pos m.minute -ℤ east) +ℤ pos m.second)
    e

-- ---- how far it lies from zero, for a valid moment

pub seconds_most : (m : Moment) → ValidMoment m → (east : ℤ) → nat_abs east ≤ most_offset → nat_abs (seconds m east) < 10 ^ 12
unfolding seconds
seconds_most m v east h =
    let n = number_within m.date.year m.date.month m.date.day v.date in
    let past = pos (day_number_of m.date) -ℤ pos epoch in
    let minutes = pos m.minute -ℤ east in
    let a = pos 86400 *ℤ past in
    let b = pos 3600 *ℤ pos m.hour in
    let c = pos 60 *ℤ minutes in
    omega (
      arith,
      n.1,
      last_day.0,
      v.hour,
      v.minute,
      v.second,
      abs_sub (pos (day_number_of m.date)) (pos epoch),
      abs_sub (pos m.minute) east,
      abs_times 86400 past,
      abs_times 60 minutes,
      abs_add a b,
      abs_add (a +ℤ b) c,
      abs_add (a +ℤ b +ℤ c) (pos m.second),
    )

-- the day number of 1970-01-01
pub epoch_is : day_number 1970 1 1 ≡ epoch
unfolding calendar.computes
epoch_is = refl
