-- Valid sheets and their words are each other's inverse (RULES 11.1).
-- Assumes nothing.
use Prim.Native.Nat.{ℕ, suc, ◌+◌, ◌-◌, ◌*◌, ◌^◌, ◌≤◌, ◌<◌}
use mathlib.Core.Bool.{Bool, true, false, cond, and-eq-true_iff}
use mathlib.Core.Path.{◌≡◌, refl, sym, ap, ◌∙◌}
use native.Mathlib.Decide.{dec_lt}
use native.Mathlib.Omega.{arith}
use borrow.Author.Tests.{eqb-true, eq-eqb, leb-true, le-leb, le-ltb, lt-ltb}
use lib.Dec.{eqb}
use lib.IntN.{ℤ, pos, negsuc, nat_abs, sub_ℕ, ◌-ℤ◌}
use Rattle.laws.proofs.Cases.{clash}
use Rattle.calendar.specs.Calendar.{date}
use Rattle.calendar.proofs.Dates.{Valid}
use Rattle.calendar.proofs.Months.{month_most}
use Rattle.values.specs.Offsets.{is_offset, offset_number, offset_of}
use Rattle.values.specs.Moments as moments
use Rattle.values.specs.declared.Moment.{Moment}
use Rattle.values.proofs.Ranges.{ValidMoment, no_fault_moment}
use Rattle.sheets.specs.Packing.{bits, packed, Fit}
use Rattle.words.specs.Words.{flag, number_or0, offset_flag}
use Rattle.sheets.specs.Sheets.{sheet_widths, offset_field, fields, word_of, said_from, field_offset}
use Rattle.sheets.specs.Sheets.{sheet_from, sheet_of, fault_of, is_valid, is_packing, packing_of, dated, packing}
use Rattle.sheets.specs.declared.SheetFields.{SheetFields}
use Rattle.sheets.specs.declared.Sheet.{Sheet}
use Rattle.sheets.proofs.Packing.{packed_small, unpacked_packed}
use Rattle.std.specs.Prelude.{Err, None, Ok, Option, Result, Some, ℕ, ℤ}
use Rattle.sheets.specs.declared.DateFields.{DateFields}
use Rattle.sheets.specs.declared.Unpackable.TheVariants.{Bad}
use Rattle.values.specs.declared.fields.Field.{Field}

-- ---- the fields of a valid sheet

flag_most : (x : Option ℕ) → flag x ≤ 1
flag_most None = omega arith
flag_most (Some n) = omega arith

offset_flag_most : (o : Option ℤ) → offset_flag o ≤ 1
unfolding offset_flag
offset_flag_most None = omega arith
offset_flag_most (Some z) = omega arith

-- an offset, and 1439 more: its number, and back
shifted : (z : ℤ) → nat_abs z ≤ 1439 → (offset_number z ≤ 2878) × (pos (suc (offset_number z)) -ℤ pos 1440 ≡ z)
unfolding offset_number
shifted (pos n) h = (omega arith, rw (le-ltb (suc (n + 1439)) 1440 (omega arith)) (ap pos (omega arith)))
shifted (negsuc n) h =
    let e : nat_abs (sub_ℕ 1439 (suc n)) ≡ 1439 - suc n = rw (le-ltb 1439 (suc n) (omega arith)) in
    rw e (omega arith, rw (lt-ltb (suc (1439 - suc n)) 1440 (omega arith)) (ap negsuc (omega arith)))

-- and from a number to its offset
pub unshifted : (n : ℕ) → n ≤ 2878
    → (offset_number (pos (suc n) -ℤ pos 1440) ≡ n) × (nat_abs (pos (suc n) -ℤ pos 1440) ≤ 1439)
unfolding offset_number
unshifted n h =
    elim (dec_lt (suc n) 1440) [
      | yes l ↦
          rw (lt-ltb (suc n) 1440 l)
          (rw (le-ltb 1439 (suc (1440 - suc (suc n))) (omega arith)) (omega arith), omega arith)
      | no l ↦ rw (le-ltb (suc n) 1440 (omega (arith, l))) (omega arith, omega arith)
    ]

-- what is known of the fields of a valid sheet
pub record Small (s : Sheet) : Type 0 where
  pub date : Valid s.date.year s.date.month s.date.day
  pub day : s.date.day ≤ 31
  pub hour_said : flag s.hour ≤ 1
  pub hour : number_or0 s.hour ≤ 23
  pub minute_said : flag s.minute ≤ 1
  pub minute : number_or0 s.minute ≤ 59
  pub second_said : flag s.second ≤ 1
  pub second : number_or0 s.second ≤ 60
  pub offset_said : offset_flag s.offset ≤ 1
  pub offset : is_offset s.offset ≡ true
  pub offset_field_lem : offset_field s.offset ≤ 2878

field_most : (o : Option ℤ) → is_offset o ≡ true → offset_field o ≤ 2878
unfolding offset_field is_offset
field_most None e = omega arith
field_most (Some z) e = (shifted z (leb-true _ _ e)).0

abbrev moment_of : Sheet → Moment
moment_of s =
    record {
      date = s.date;
      hour = number_or0 s.hour;
      minute = number_or0 s.minute;
      second = number_or0 s.second;
      offset = s.offset;
    }

pub small : (s : Sheet) → is_valid s ≡ true → Small s
unfolding is_valid fault_of
small s e =
    let v : ValidMoment (moment_of s) = no_fault_moment (moment_of s) (eqb-true _ _ e) in
    record {
      date = v.date;
      day = omega (arith, v.date.day_high, month_most s.date.year s.date.month);
      hour_said = flag_most s.hour;
      hour = v.hour;
      minute_said = flag_most s.minute;
      minute = v.minute;
      second_said = flag_most s.second;
      second = v.second;
      offset_said = offset_flag_most s.offset;
      offset = v.offset;
      offset_field_lem = field_most s.offset v.offset;
    }

-- they fit
pub fields_fit : (s : Sheet) → Small s → Fit sheet_widths (fields s)
unfolding Fit sheet_widths fields
fields_fit s v = (
  omega (arith, v.date.year_high),
  (
    omega (arith, v.date.month_high),
    (
      omega (arith, v.day),
      (
        omega (arith, v.hour_said),
        (
          omega (arith, v.hour),
          (
            omega (arith, v.minute_said),
            (
              omega (arith, v.minute),
              (
                omega (arith, v.second_said),
                (
                  omega (arith, v.second),
                  (
                    omega (arith, v.offset_said),
                    (
                      omega (arith, v.offset_field_lem),
                      (omega arith, tt),
                    ),
                  ),
                ),
              ),
            ),
          ),
        ),
      ),
    ),
  ),
)

-- its word, field by field behind each other, as it is worked out
module _ (s : Sheet) {h n x o : ℕ} (p : h ≡ flag s.hour * 32 + number_or0 s.hour)
    (q : n ≡ flag s.minute * 64 + number_or0 s.minute)
    (r : x ≡ flag s.second * 64 + number_or0 s.second) (t : o ≡ offset_flag s.offset * 4096 + offset_field s.offset) where
  pub word_is : (((((s.date.year * 512 + s.date.month * 32 + s.date.day) * 64 + h) * 128 + n) * 128 + x) * 8192 + o) * 256 ≡ word_of s
  unfolding word_of packed sheet_widths fields bits
  word_is = omega (arith, p, q, r, t)

-- ---- from its word back to a valid sheet

said_again : (x : Option ℕ) → said_from (flag x) (number_or0 x) ≡ x
unfolding said_from
said_again None = refl
said_again (Some n) = refl

offset_again : (o : Option ℤ) → is_offset o ≡ true → field_offset (offset_flag o) (offset_field o) ≡ o
unfolding field_offset offset_flag offset_field offset_of is_offset
offset_again None e = refl
offset_again (Some z) e =
    let h = shifted z (leb-true _ _ e) in
    rw (le-leb 1 (suc (offset_number z)) (omega arith), le-leb (suc (offset_number z)) 2879 (omega (arith, h.0))) (ap Some h.1)

pub from_fields : (s : Sheet) → Small s → sheet_from (fields s) ≡ s
unfolding sheet_from fields
from_fields s v =
    rw (said_again s.hour, said_again s.minute, said_again s.second, offset_again s.offset v.offset)

-- a valid sheet comes back from its word
pub sheet_of_word : (s : Sheet) → is_valid s ≡ true → sheet_of (word_of s) ≡ s
unfolding sheet_of word_of
sheet_of_word s e =
    let v = small s e in
    ap sheet_from (unpacked_packed sheet_widths (fields s) (fields_fit s v)) ∙ from_fields s v

-- and its word is a packing, of 64 bits
pub word_packs : (s : Sheet) → is_valid s ≡ true → is_packing (word_of s) ≡ true
unfolding is_packing
word_packs s e = rw (sheet_of_word s e, e) (eq-eqb (word_of s) (word_of s) refl)

pub word_small : (s : Sheet) → is_valid s ≡ true → word_of s < 2 ^ 64
unfolding word_of bits sheet_widths
word_small s e = packed_small sheet_widths (fields s) (fields_fit s (small s e))

-- what a packing unpacks to is valid, and packs to it
pub packing_valid : (x : ℕ) → is_packing x ≡ true → is_valid (sheet_of x) ≡ true
unfolding is_packing
packing_valid x e = ((and-eq-true_iff (is_valid (sheet_of x)) (eqb (word_of (sheet_of x)) x)).0 e).0

pub packing_again : (x : ℕ) → is_packing x ≡ true → word_of (sheet_of x) ≡ x
unfolding is_packing
packing_again x e = eqb-true _ _ ((and-eq-true_iff (is_valid (sheet_of x)) (eqb (word_of (sheet_of x)) x)).0 e).1

-- ---- what the constructor of moments answers for the fields of a sheet

bad_of : (b : Bool) (f g : Field) (v : Moment) → cond b (Ok v) (Err f) ≡ Err g → (b ≡ false) × (f ≡ g)
bad_of true f g v e = clash (cc)
bad_of false f g v e = (refl, cc)

valid_of : (b : Bool) (f : Field) (v u : Moment) → cond b (Ok v) (Err f) ≡ Ok u → (b ≡ true) × (v ≡ u)
valid_of true f v u e = (refl, cc)
valid_of false f v u e = clash (cc)

module _ (y m d : ℕ) (h n s : Option ℕ) (o : Option ℤ) {a b c : ℕ} (p : a ≡ number_or0 h) (q : b ≡ number_or0 n) (r : c ≡ number_or0 s)
    {f : Result Moment Field} (e : f ≡ moments.moment_of y m d a b c o) where
  answered : f ≡ moments.moment_of y m d (number_or0 h) (number_or0 n) (number_or0 s) o
  answered = e ∙ rw (p, q, r)

  pub judged_bad : {g : Field} → f ≡ Err g → (eqb (fault_of y m d h n s o) 0 ≡ false) × (moments.field_of (fault_of y m d h n s o) ≡ g)
  unfolding fault_of moments.moment_of
  judged_bad {g} t = bad_of _ _ g _ (sym answered ∙ t)

  pub judged_valid : {v : Moment} → f ≡ Ok v → (eqb (fault_of y m d h n s o) 0 ≡ true) × (date y m d ≡ v.date)
  unfolding fault_of moments.moment_of
  judged_valid {v} t =
      let g = valid_of _ _ _ v (sym answered ∙ t) in
      (g.0, ap (λ (x : Moment). x.date) g.1)

-- ---- what packing answers

word_of_lem : (b : Bool) (x : ℕ) (f : Field) (y : ℕ) → cond b (Ok x) (Err (Bad f)) ≡ Ok y → (b ≡ true) × (x ≡ y)
word_of_lem true x f y e = (refl, cc)
word_of_lem false x f y e = clash (cc)

-- a word that it answers is a packing
pub packing_word : (f : SheetFields) {x : ℕ} → packing f ≡ Ok x → is_packing x ≡ true
unfolding packing dated packing_of is_valid
packing_word f {x} e = go f.date e
  where
    go : (t : Option DateFields) → dated t f ≡ Ok x → is_packing x ≡ true
    go None q = clash (cc)
    go (Some t) q =
        let g = word_of_lem (eqb (fault_of t.year t.month t.day f.hour f.minute f.second f.offset) 0) _ _ x q in
        rw (← g.1)
        (word_packs (record { date = date t.year t.month t.day; hour = f.hour; minute = f.minute; second = f.second; offset = f.offset })
        g.0)
