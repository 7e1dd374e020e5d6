-- A word is the packing of a sheet exactly if each field passes its test.
-- Assumes nothing.
use Prim.Native.Nat.{ℕ, zero, suc, ◌+◌, ◌-◌, ◌*◌, ◌/◌, ◌%◌, ◌^◌, ◌≤◌, ◌<◌}
use mathlib.Core.Bool.{Bool, true, false, ◌&&◌, ◌||◌, and-eq-true_iff}
use mathlib.Core.Logic.{◌⊎◌, inl, inr, ⊎_elim}
use mathlib.Core.Path.{◌≡◌, refl, sym, ap, ◌∙◌}
use native.Mathlib.Decide.{ℕ_discrete}
use native.Mathlib.Omega.{arith}
use borrow.Author.Tests.{eq-eqb, ne_eqb, eqb-true, leb-true, le-leb, ltb-true, lt-ltb}
use Rattle.std.specs.Cmp.{both_ways}
use lib.Dec.{eqb, leb, ltb}
use lib.ListN.{get_or}
use Rattle.calendar.proofs.Dates.{valid_no_fault}
use Rattle.values.specs.Moments.{moment_fault}
use Rattle.values.specs.Offsets.{is_offset, offset_of}
use Rattle.words.specs.Words.{flag, number_or0, offset_flag}
use Rattle.sheets.specs.Packing.{bits, unpacked}
use Rattle.sheets.specs.Private.{is_field, is_date}
use Rattle.sheets.specs.Sheets.{sheet_widths, offset_field, word_of, said_from, field_offset, sheet_from, sheet_of, fault_of, is_valid}
use Rattle.sheets.specs.Sheets.{is_packing}
use Rattle.sheets.proofs.Sheets.{small, word_is, unshifted, packing_valid, packing_again}
use Rattle.std.specs.Prelude.{None, Option, Some, ℕ, ℤ}

-- ---- one field

either_way : (n size most : ℕ) → is_field n size most ≡ true → (n ≡ 0) ⊎ ((size ≤ n) × (n - size < most))
unfolding is_field
either_way n size most e = go (ℕ_discrete n 0)
  where
    go : Dec (n ≡ 0) → (n ≡ 0) ⊎ ((size ≤ n) × (n - size < most))
    go (yes z) = inl z
    go (no z) =
        let f : (leb size n && ltb (n - size) most) ≡ true = rw (ne_eqb n 0 z) at e in
        let b = (and-eq-true_iff (leb size n) (ltb (n - size) most)).0 f in
        inr (leb-true size n b.0, ltb-true (n - size) most b.1)

passes : (n size most : ℕ) → (n ≡ 0) ⊎ ((size ≤ n) × (n - size < most)) → is_field n size most ≡ true
unfolding is_field
passes n size most c =
    ⊎_elim
    (λ (z : n ≡ 0). rw (eq-eqb n 0 z))
    (λ (g : (size ≤ n) × (n - size < most)). rw (le-leb size n g.0, lt-ltb (n - size) most g.1) (or-true (eqb n 0)))
    c
  where
    or-true : (b : Bool) → (b || true) ≡ true
    or-true true = refl
    or-true false = refl

-- ---- from a packing to the tests

unsaid_zero : (x : Option ℕ) → ((flag x ≡ 0) × (number_or0 x ≡ 0)) ⊎ (flag x ≡ 1)
unsaid_zero None = inl (refl, refl)
unsaid_zero (Some n) = inr refl

no_offset_zero : (o : Option ℤ) → ((offset_flag o ≡ 0) × (offset_field o ≡ 0)) ⊎ (offset_flag o ≡ 1)
unfolding offset_flag offset_field
no_offset_zero None = inl (refl, refl)
no_offset_zero (Some z) = inr refl

-- a field that is zero where its flag is, and else in its range
ranged : (f n size most : ℕ) → ((f ≡ 0) × (n ≡ 0)) ⊎ (f ≡ 1) → n < most → is_field (f * size + n) size most ≡ true
ranged f n size most c h =
    passes (f * size + n) size most
    (⊎_elim
    (λ (z : (f ≡ 0) × (n ≡ 0)). inl (rw (z.0, z.1) (omega arith)))
    (λ (e : f ≡ 1). rw e (inr (omega arith, omega arith)))
    c)

pub record Tests (x : ℕ) : Type 0 where
  pub date : is_date (sheet_of x).date ≡ true
  pub hour : is_field (x / 34359738368 % 64) 32 24 ≡ true
  pub minute : is_field (x / 268435456 % 128) 64 60 ≡ true
  pub second : is_field (x / 2097152 % 128) 64 61 ≡ true
  pub offset : is_field (x / 256 % 8192) 4096 2879 ≡ true
  pub low : x % 256 ≡ 0

-- the fields of a word that was made of them
module _ (x d h n s o : ℕ) (hl : h < 64) (nl : n < 128) (sl : s < 128) (ol : o < 8192)
    (e : ((((d * 64 + h) * 128 + n) * 128 + s) * 8192 + o) * 256 ≡ x) where
  hour-is : x / 34359738368 % 64 ≡ h
  hour-is = omega arith

  minute_is : x / 268435456 % 128 ≡ n
  minute_is = omega arith

  second_is : x / 2097152 % 128 ≡ s
  second_is = omega arith

  offset-is : x / 256 % 8192 ≡ o
  offset-is = omega arith

  low_is : x % 256 ≡ 0
  low_is = omega arith

pub packing_tests : (x : ℕ) → is_packing x ≡ true → Tests x
unfolding is_date
packing_tests x e =
    let s = sheet_of x in
    let v = small s (packing_valid x e) in
    let h = flag s.hour * 32 + number_or0 s.hour in
    let n = flag s.minute * 64 + number_or0 s.minute in
    let m = flag s.second * 64 + number_or0 s.second in
    let o = offset_flag s.offset * 4096 + offset_field s.offset in
    let d = s.date.year * 512 + s.date.month * 32 + s.date.day in
    let hl : h < 64 = omega (arith, v.hour_said, v.hour) in
    let nl : n < 128 = omega (arith, v.minute_said, v.minute) in
    let ml : m < 128 = omega (arith, v.second_said, v.second) in
    let ol : o < 8192 = omega (arith, v.offset_said, v.offset_field_lem) in
    let w = word_is s {h = h} {n = n} {x = m} {o = o} refl refl refl refl ∙ packing_again x e in
    record {
      date = eq-eqb _ 0 (valid_no_fault _ _ _ v.date);
      hour = rw (hour-is x d h n m o hl nl ml ol w) (ranged _ _ 32 24 (unsaid_zero s.hour) (omega (arith, v.hour)));
      minute = rw (minute_is x d h n m o hl nl ml ol w) (ranged _ _ 64 60 (unsaid_zero s.minute) (omega (arith, v.minute)));
      second = rw (second_is x d h n m o hl nl ml ol w) (ranged _ _ 64 61 (unsaid_zero s.second) (omega (arith, v.second)));
      offset = rw (offset-is x d h n m o hl nl ml ol w)
          (ranged _ _ 4096 2879 (no_offset_zero s.offset) (omega (arith, v.offset_field_lem)));
      low = low_is x d h n m o hl nl ml ol w;
    }

-- ---- and back

-- a flag and a number that pass come back as they are
said_back : (f n size most : ℕ) → f ≤ 1 → n < size → is_field (f * size + n) size most ≡ true
    → (flag (said_from f n) * size + number_or0 (said_from f n) ≡ f * size + n) × (number_or0 (said_from f n) ≤ most - 1)
unfolding said_from
said_back zero n size most p q e =
    ⊎_elim
    (λ (z : 0 * size + n ≡ 0). (omega (arith, z), omega arith))
    (λ (g : (size ≤ 0 * size + n) × (0 * size + n - size < most)). absurd (omega (arith, g.0)))
    (either_way (0 * size + n) size most e)
said_back (suc zero) n size most p q e =
    ⊎_elim
    (λ (z : 1 * size + n ≡ 0). absurd (omega (arith, z, q)))
    (λ (g : (size ≤ 1 * size + n) × (1 * size + n - size < most)). (refl, omega (arith, g.1)))
    (either_way (1 * size + n) size most e)
said_back (suc (suc f)) n size most p q e = absurd (omega arith)

offset_back : (f n : ℕ) → f ≤ 1 → n < 4096 → is_field (f * 4096 + n) 4096 2879 ≡ true
    → (offset_flag (field_offset f n) * 4096 + offset_field (field_offset f n) ≡ f * 4096 + n) × (is_offset (field_offset f n) ≡ true)
unfolding field_offset offset_flag offset_field is_offset offset_of
offset_back zero n p q e =
    ⊎_elim
    (λ (z : 0 * 4096 + n ≡ 0). (omega (arith, z), refl))
    (λ (g : (4096 ≤ 0 * 4096 + n) × (0 * 4096 + n - 4096 < 2879)). absurd (omega (arith, g.0)))
    (either_way (0 * 4096 + n) 4096 2879 e)
offset_back (suc zero) n p q e =
    ⊎_elim
    (λ (z : 1 * 4096 + n ≡ 0). absurd (omega (arith, z)))
    (λ (g : (4096 ≤ 1 * 4096 + n) × (1 * 4096 + n - 4096 < 2879)).
    let l : n ≤ 2878 = omega (arith, g.1) in
    rw (le-leb 1 (suc n) (omega arith), le-leb (suc n) 2879 (omega arith))
    (ap (λ (k : ℕ). 1 * 4096 + k) (unshifted n l).0, le-leb _ 1439 (unshifted n l).1))
    (either_way (1 * 4096 + n) 4096 2879 e)
offset_back (suc (suc f)) n p q e = absurd (omega arith)

-- the fields of a word, each with its flag
module _ (x : ℕ) where
  f : ℕ → ℕ
  f i = get_or (unpacked sheet_widths x) i 0

  date-part : (x < 2 ^ 64) → f 0 * 512 + f 1 * 32 + f 2 ≡ x / 2199023255552
  unfolding f sheet_widths unpacked bits
  date-part h = omega arith

  hour-part : (f 3 * 32 + f 4 ≡ x / 34359738368 % 64) × (f 3 ≤ 1) × (f 4 < 32)
  unfolding f sheet_widths unpacked bits
  hour-part = (omega arith, omega arith, omega arith)

  minute-part : (f 5 * 64 + f 6 ≡ x / 268435456 % 128) × (f 5 ≤ 1) × (f 6 < 64)
  unfolding f sheet_widths unpacked bits
  minute-part = (omega arith, omega arith, omega arith)

  second-part : (f 7 * 64 + f 8 ≡ x / 2097152 % 128) × (f 7 ≤ 1) × (f 8 < 64)
  unfolding f sheet_widths unpacked bits
  second-part = (omega arith, omega arith, omega arith)

  offset-part : (f 9 * 4096 + f 10 ≡ x / 256 % 8192) × (f 9 ≤ 1) × (f 10 < 4096)
  unfolding f sheet_widths unpacked bits
  offset-part = (omega arith, omega arith, omega arith)

  -- and all of it, from the date down
  to-hour : x / 2199023255552 * 64 + x / 34359738368 % 64 ≡ x / 34359738368
  to-hour = omega arith

  to-minute : x / 34359738368 * 128 + x / 268435456 % 128 ≡ x / 268435456
  to-minute = omega arith

  to-second : x / 268435456 * 128 + x / 2097152 % 128 ≡ x / 2097152
  to-second = omega arith

  to-offset : x / 2097152 * 8192 + x / 256 % 8192 ≡ x / 256
  to-offset = omega arith

  whole : (d h n s o : ℕ) → d ≡ x / 2199023255552 → h ≡ x / 34359738368 % 64 → n ≡ x / 268435456 % 128 → s ≡ x / 2097152 % 128
      → o ≡ x / 256 % 8192 → x % 256 ≡ 0 → ((((d * 64 + h) * 128 + n) * 128 + s) * 8192 + o) * 256 ≡ x
  whole d h n s o p q r t u v = rw (p, q, r, t, u, to-hour, to-minute, to-second, to-offset) (omega (arith, v))

pub tests_packing : (x : ℕ) → x < 2 ^ 64 → Tests x → is_packing x ≡ true
unfolding is_packing is_valid fault_of moment_fault sheet_of sheet_from f is_date
tests_packing x b t =
    let h = hour-part x in
    let n = minute-part x in
    let s = second-part x in
    let o = offset-part x in
    let hb = said_back (f x 3) (f x 4) 32 24 h.1 h.2 (rw h.0 t.hour) in
    let nb = said_back (f x 5) (f x 6) 64 60 n.1 n.2 (rw n.0 t.minute) in
    let sb = said_back (f x 7) (f x 8) 64 61 s.1 s.2 (rw s.0 t.second) in
    let ob = offset_back (f x 9) (f x 10) o.1 o.2 (rw o.0 t.offset) in
    let w : word_of (sheet_of x) ≡ x
    = sym (word_is (sheet_of x) refl refl refl refl)
    ∙ whole x _ _ _ _ _ (date-part x b) (hb.0 ∙ h.0) (nb.0 ∙ n.0) (sb.0 ∙ s.0) (ob.0 ∙ o.0) t.low in
    rw (t.date, le-leb _ 23 hb.1, le-leb _ 59 nb.1, le-leb _ 60 sb.1, ob.1) (eq-eqb _ x w)

-- a word passes all tests, the date's first, exactly if it is a packing
abbrev pub to_hour : ℕ → Bool
to_hour x = is_date (sheet_of x).date && is_field (x / 34359738368 % 64) 32 24

abbrev pub to_minute : ℕ → Bool
to_minute x = to_hour x && is_field (x / 268435456 % 128) 64 60

abbrev pub to_second : ℕ → Bool
to_second x = to_minute x && is_field (x / 2097152 % 128) 64 61

abbrev pub to_offset : ℕ → Bool
to_offset x = to_second x && is_field (x / 256 % 8192) 4096 2879

pub tested : (x : ℕ) → x < 2 ^ 64 → (to_offset x && eqb (x % 256) 0) ≡ is_packing x
tested x l =
    both_ways _ _
    (λ e.
    let low = (and-eq-true_iff _ _).0 e in
    let o = (and-eq-true_iff _ _).0 low.0 in
    let s = (and-eq-true_iff _ _).0 o.0 in
    let n = (and-eq-true_iff _ _).0 s.0 in
    let h = (and-eq-true_iff _ _).0 n.0 in
    tests_packing x l
    (record { date = h.0; hour = h.1; minute = n.1; second = s.1; offset = o.1; low = eqb-true _ 0 low.1 }))
    (λ e.
    let t = packing_tests x e in
    rw (t.date, t.hour, t.minute, t.second, t.offset) (eq-eqb _ 0 t.low))
