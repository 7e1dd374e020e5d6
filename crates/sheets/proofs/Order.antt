-- The order of words is the order of dates, then of the rest as packed; and weeks follow it (RULES 11.1).
-- Assumes nothing.
use Prim.Native.Nat.{ℕ, suc, ◌+◌, ◌-◌, ◌*◌, ◌/◌, ◌^◌, ◌≤◌, ◌<◌}
use mathlib.Core.Bool.{Bool, true, false, cond, ◌&&◌, and-eq-true_iff}
use mathlib.Core.Logic.{inl, inr, ⊎_elim}
use mathlib.Core.Path.{◌≡◌, refl, sym, ap, ◌∙◌}
use native.Mathlib.Decide.{dec_le, dec_lt}
use native.Mathlib.Nat.{eq-or-lt_of_le}
use native.Mathlib.Omega.{arith}
use borrow.Author.Tests.{lt-ltb, le-ltb, lt-leb, leb-true, eq-eqb, ne_eqb}
use lib.Dec.{eqb, leb, ltb}
use Rattle.calendar.specs.Calendar.{within, year_length, days, days_before, year_of, date_of, weekday, thursday, iso_year, iso_week}
use Rattle.calendar.specs.Dates.{from_day_number}
use Rattle.laws.proofs.Cases.{clash}
use Rattle.calendar.specs.declared.Date.{Date}
use Rattle.calendar.proofs.Dates as dates
use Rattle.calendar.proofs.Dates.{Valid, Found, number_before, number_within, date_of_number, number_of_date, number_day}
use Rattle.calendar.proofs.Ranges.{thursday_within, iso_year_range, iso_week_range}
use Rattle.calendar.proofs.Sum.{sum_mono}
use Rattle.calendar.proofs.Weeks.{iso_week_is}
use Rattle.calendar.proofs.Years.{year_located}
use Rattle.calendar.proofs.Months.{month_most}
use Rattle.values.specs.Offsets.{is_offset}
use Rattle.values.specs.Values.{day_number_of}
use Rattle.words.specs.Words.{offset_flag}
use lib.ListN.{drop}
use Rattle.sheets.specs.Packing.{bits, packed, Fit}
use Rattle.sheets.specs.Rules.{rest_of, Before}
use Rattle.sheets.specs.Sheets.{sheet_widths, offset_field, fields, word_of, sheet_of, is_packing, week_widths, week_of_date, week_of}
use Rattle.sheets.specs.Sheets.{date_word, word_from, next_week}
use Rattle.sheets.specs.declared.Sheet.{Sheet}
use Rattle.sheets.proofs.Packing.{packed_small}
use Rattle.sheets.proofs.Sheets.{Small, small, fields_fit, word_small, packing_valid, packing_again}
use Rattle.sheets.proofs.Testing.{packing_tests}
use Rattle.std.specs.Prelude.{None, Some}

-- ---- weeks follow days

year_mono : (k l : ℕ) → 0 < k → k ≤ l → year_of k ≤ year_of l
year_mono k l p h =
    let a = year_located k p in
    let b = year_located l (omega arith) in
    elim (dec_le a.0.past b.0.past) [
      | yes q ↦ omega (arith, a.1, b.1)
      | no q ↦ absurd (omega (arith, a.0.after, b.0.upto, sum_mono year_length (suc b.0.past) a.0.past (omega (arith, q))))
    ]

thursday_mono : (k l : ℕ) → k ≤ l → thursday k ≤ thursday l
unfolding thursday
thursday_mono k l h = omega arith

week_mono : (s t : Date) → 0 < day_number_of s → day_number_of s ≤ day_number_of t → day_number_of t ≤ days
    → week_of_date s ≤ week_of_date t
unfolding week_of_date week_widths packed bits iso_year
week_mono s t p h q =
    let k = day_number_of s in
    let l = day_number_of t in
    let a = thursday_within k p (omega arith) in
    let y = year_mono (thursday k) (thursday l) a.0 (thursday_mono k l h) in
    let v = iso_week_range k p (omega arith) in
    let w = iso_week_range l (omega arith) q in
    ⊎_elim
    (λ (e : year_of (thursday k) ≡ year_of (thursday l)).
    omega (arith, v, w, iso_week_is k, iso_week_is l, ap days_before e, thursday_mono k l h))
    (λ (g : year_of (thursday k) < year_of (thursday l)). omega (arith, v, w))
    (eq-or-lt_of_le y)

-- ---- the order of words

-- a word is the bits of its date, then the rest
date_bits : Sheet → ℕ
date_bits s = s.date.year * 512 + s.date.month * 32 + s.date.day

same_bits : (s t : Sheet) → s.date ≡ t.date → date_bits s ≡ date_bits t
unfolding date_bits
same_bits s t e = ap (λ (d : Date). d.year * 512 + d.month * 32 + d.day) e

word_split : (s : Sheet) → word_of s ≡ date_bits s * 2 ^ 41 + rest_of s
unfolding date_bits word_of rest_of packed sheet_widths fields bits
word_split s = omega arith

rest_small : (s : Sheet) → Small s → rest_of s < 2 ^ 41
unfolding rest_of sheet_widths fields Fit bits
rest_small s v = packed_small (drop 3 sheet_widths) (drop 3 (fields s)) (fields_fit s v).1.1.1

module _ (s t : Sheet) (v : Small s) (w : Small t) where
  -- the order of dates is that of their bits
  bits-before : dates.Before s.date.year s.date.month s.date.day t.date.year t.date.month t.date.day
      → date_bits s < date_bits t
  unfolding dates.Before date_bits
  bits-before b =
      ⊎_elim
      (λ a. omega (arith, v.date.month_high, v.day))
      (λ c. ⊎_elim (λ a. omega (arith, c.0, v.day)) (λ a. omega (arith, c.0)) c.1)
      b

  number-bits : day_number_of s.date < day_number_of t.date → date_bits s < date_bits t
  number-bits h = bits-before (number_before _ _ _ _ _ _ v.date w.date h)

module _ (s t : Sheet) (v : Small s) (w : Small t) where
  pub before_less : Before s t → word_of s < word_of t
  unfolding Before
  before_less b =
      ⊎_elim
      (λ (h : day_number_of s.date < day_number_of t.date).
      omega (arith, word_split s, word_split t, number-bits s t v w h, rest_small s v))
      (λ (e : (s.date ≡ t.date) × (rest_of s < rest_of t)).
      omega (arith, word_split s, word_split t, same_bits s t e.0, e.1))
      b

module _ (s t : Sheet) (v : Small s) (w : Small t) where
  same-date : day_number_of s.date ≡ day_number_of t.date → s.date ≡ t.date
  same-date e =
      sym (date_of_number _ _ _ v.date) ∙ ap date_of e ∙ date_of_number _ _ _ w.date

  pub less_before : word_of s < word_of t → Before s t
  unfolding Before
  less_before h =
      elim (dec_lt (day_number_of s.date) (day_number_of t.date)) [
        | yes l ↦ inl l
        | no l ↦ ⊎_elim
            (λ (e : day_number_of t.date ≡ day_number_of s.date).
            let d = same-date (sym e) in
            inr (d, omega (arith, word_split s, word_split t, same_bits s t d, h)))
            (λ (g : day_number_of t.date < day_number_of s.date).
            absurd (omega (arith, h, before_less t s w v (unfold Before in inl g))))
            (eq-or-lt_of_le (omega (arith, l)))
      ]

  number-order : word_of s ≤ word_of t → day_number_of s.date ≤ day_number_of t.date
  number-order h =
      elim (dec_le (day_number_of s.date) (day_number_of t.date)) [
        | yes l ↦ l
        | no l ↦ absurd (omega (arith, h, before_less t s w v (unfold Before in inl (omega (arith, l)))))
      ]

  pub week_order : word_of s ≤ word_of t → week_of_date s.date ≤ week_of_date t.date
  week_order h =
      week_mono s.date t.date (number_within _ _ _ v.date).0 (number-order h) (number_within _ _ _ w.date).1

-- the same of packings
pub packing_weeks : (x y : ℕ) → is_packing x ≡ true → is_packing y ≡ true → x ≤ y → week_of x ≤ week_of y
unfolding week_of
packing_weeks x y p q h =
    let s = sheet_of x in
    let t = sheet_of y in
    week_order s t (small s (packing_valid x p)) (small t (packing_valid y q)) (omega (arith, packing_again x p, packing_again y q))

-- and a packing's week has 20 bits, with room above it
pub packing_week : (x : ℕ) → is_packing x ≡ true → week_of x + 1 < 2 ^ 20
unfolding week_of week_of_date week_widths packed bits
packing_week x p =
    let t = (sheet_of x).date in
    let n = number_within _ _ _ (small (sheet_of x) (packing_valid x p)).date in
    omega (arith, iso_year_range (day_number_of t) n.0 n.1, iso_week_range (day_number_of t) n.0 n.1)

-- ---- where a later week begins

day_of : (b : Bool) (u t : Date) → cond b (Some u) None ≡ Some t → (b ≡ true) × (u ≡ t)
day_of true u t e = (refl, cc)
day_of false u t e = clash (cc)

-- the year of a day's date is one of the calendar's
pub day_year : (n : ℕ) {t : Date} → from_day_number n ≡ Some t → t.year < 10000
unfolding from_day_number
day_year n {t} e =
    let g = day_of (within 1 days n) (date_of n) t e in
    let b = (and-eq-true_iff (leb 1 n) (leb n days)).0 g.0 in
    let f = number_of_date n (leb-true 1 n b.0) (leb-true n days b.1) in
    rw (← g.1) (omega (arith, f.valid.year_high))

monday : ℕ → ℕ
monday k = k + 8 - weekday k

-- days of one week have one Thursday
one_thursday : (k l : ℕ) → 0 < k → k ≤ l → l < monday k → thursday l ≡ thursday k
unfolding monday thursday
one_thursday k l p h q = omega arith

week_close : (k l : ℕ) → (thursday l + 3) / 7 ≡ (thursday k + 3) / 7 → l < k + 8 - weekday k
unfolding thursday
week_close k l a = omega arith

-- and days with one year and week, too
weeks_apart : (s t : Date) → 0 < day_number_of s → day_number_of s ≤ day_number_of t → day_number_of t ≤ days → week_of_date t
    ≡ week_of_date s
    → day_number_of t < monday (day_number_of s)
unfolding week_of_date week_widths packed bits monday
weeks_apart s t p h q e =
    let k = day_number_of s in
    let l = day_number_of t in
    let v = iso_week_range k p (omega arith) in
    let w = iso_week_range l (omega arith) q in
    let y : iso_year l ≡ iso_year k = omega (arith, e, v, w) in
    let a : (thursday l + 3) / 7 ≡ (thursday k + 3) / 7
    = omega (arith, e, y, iso_week_is k, iso_week_is l, ap days_before y) in
    week_close k l a

-- a day of which nothing else is said
abbrev bare : Date → Sheet
bare t = record { date = t; hour = None; minute = None; second = None; offset = None }

bare_word : (t : Date) → word_of (bare t) ≡ date_word t
unfolding word_of date_word packed sheet_widths fields bits offset_flag offset_field
bare_word t = omega arith

bare_rest : (t : Date) → rest_of (bare t) ≡ 0
unfolding rest_of packed sheet_widths fields bits offset_flag offset_field
bare_rest t = refl

bare_small : (t : Date) → Valid t.year t.month t.day → Small (bare t)
unfolding offset_flag offset_field is_offset
bare_small t v =
    record {
      date = v;
      day = omega (arith, v.day_high, month_most t.year t.month);
      hour_said = omega arith;
      hour = omega arith;
      minute_said = omega arith;
      minute = omega arith;
      second_said = omega arith;
      second = omega arith;
      offset_said = omega arith;
      offset = refl;
      offset_field_lem = omega arith;
    }

-- the word of a day is above those of the days before it, and of them alone
module _ (x : ℕ) (e : is_packing x ≡ true) (m : ℕ) (p : 0 < m) (q : m ≤ days) where
  target : Found m (date_of m)
  target = number_of_date m p q

  held : Small (sheet_of x)
  held = small (sheet_of x) (packing_valid x e)

  day-below : day_number_of (sheet_of x).date < m → x < date_word (date_of m)
  unfolding Before
  day-below h =
      omega (
        arith,
        before_less (sheet_of x) (bare (date_of m)) held (bare_small (date_of m) target.valid) (inl (omega (arith, target.number))),
        packing_again x e,
        bare_word (date_of m),
      )

  day-above : m ≤ day_number_of (sheet_of x).date → date_word (date_of m) ≤ x
  unfolding Before
  day-above h =
      elim (dec_le (date_word (date_of m)) x) [
        | yes l ↦ l
        | no l ↦ ⊎_elim
            (λ (g : day_number_of (sheet_of x).date < day_number_of (date_of m)). absurd (omega (arith, target.number)))
            (λ (g : ((sheet_of x).date ≡ date_of m) × (rest_of (sheet_of x) < rest_of (bare (date_of m)))).
            absurd (omega (arith, g.1, bare_rest (date_of m))))
            (less_before (sheet_of x) (bare (date_of m)) held (bare_small (date_of m) target.valid)
            (omega (arith, l, packing_again x e, bare_word (date_of m))))
      ]

-- a packing from another on is of its week exactly if it is below the next week's words
module _ (x y : ℕ) (p : is_packing x ≡ true) (q : is_packing y ≡ true) (h : x ≤ y) where
  days-rise : day_number_of (sheet_of x).date ≤ day_number_of (sheet_of y).date
  days-rise = number-order (sheet_of x) (sheet_of y) (small (sheet_of x) (packing_valid x p)) (small (sheet_of y) (packing_valid y q))
      (omega (arith, packing_again x p, packing_again y q))

  k : ℕ
  k = day_number_of (sheet_of x).date

  l : ℕ
  l = day_number_of (sheet_of y).date

  first : (0 < day_number_of (sheet_of x).date) × (day_number_of (sheet_of x).date ≤ days)
  first = number_within _ _ _ (small (sheet_of x) (packing_valid x p)).date

  later : (0 < day_number_of (sheet_of y).date) × (day_number_of (sheet_of y).date ≤ days)
  later = number_within _ _ _ (small (sheet_of y) (packing_valid y q)).date

  bound-inside : monday k ≤ days → next_week x ≡ date_word (date_of (monday k))
  unfolding next_week monday k word_from
  bound-inside g = rw (number_day (day_number_of (sheet_of x).date + 8 - weekday (day_number_of (sheet_of x).date)) (omega arith) g)

  bound-outside : days < monday k → next_week x ≡ 2 ^ 64 - 1
  unfolding next_week monday k word_from from_day_number
  bound-outside g =
      rw (lt-leb (day_number_of (sheet_of x).date + 8 - weekday (day_number_of (sheet_of x).date)) days g, and-false (leb 1 _))
    where
      and-false : (b : Bool) → (b && false) ≡ false
      and-false true = refl
      and-false false = refl

  monday-some : 0 < monday k
  unfolding monday k
  monday-some = omega arith

  word-most : y < 2 ^ 64 - 1
  word-most =
      omega (arith, (packing_tests y q).low, word_small (sheet_of y) (packing_valid y q), packing_again y q)

  below : l < monday k → y < next_week x
  unfolding l
  below g =
      elim (dec_le (monday k) days) [
        | yes b ↦ rw (bound-inside b) (day-below y q (monday k) monday-some b g)
        | no b ↦ rw (bound-outside (omega (arith, b))) word-most
      ]

  above : monday k ≤ l → next_week x ≤ y
  unfolding l
  above g =
      let b : monday k ≤ days = omega (arith, later.1) in
      rw (bound-inside b) (day-above y q (monday k) monday-some b g)

  one_week_lem : l < monday k → week_of y ≡ week_of x
  unfolding l k week_of week_of_date iso_year iso_week
  one_week_lem g =
      rw (one_thursday (day_number_of (sheet_of x).date) (day_number_of (sheet_of y).date) first.0 days-rise g)

  other-week : monday k ≤ l → week_of y ≡ week_of x → ⊥
  unfolding l k week_of
  other-week g e = omega (arith, g, weeks_apart (sheet_of x).date (sheet_of y).date first.0 days-rise later.1 e)

  pub by_next_week : ltb y (next_week x) ≡ eqb (week_of y) (week_of x)
  by_next_week =
      elim (dec_lt l (monday k)) [
        | yes g ↦ rw (lt-ltb y (next_week x) (below g), eq-eqb (week_of y) (week_of x) (one_week_lem g))
        | no g ↦ rw (le-ltb y (next_week x) (above (omega (arith, g))), ne_eqb (week_of y) (week_of x) (other-week (omega (arith, g))))
      ]
