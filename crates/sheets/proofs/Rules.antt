-- What is owed of sheets and their words holds.
-- Assumes nothing.
use Prim.Native.Nat.{ℕ}
use mathlib.Core.Bool.{Bool, true, false, cond}
use mathlib.Core.Path.{◌≡◌, refl, ap}
use native.Mathlib.Omega.{arith}
use Rattle.laws.proofs.Cases.{clash}
use Rattle.calendar.specs.Calendar.{iso_year, iso_week}
use Rattle.calendar.proofs.Dates.{number_within}
use Rattle.calendar.proofs.Ranges.{iso_week_range}
use Rattle.values.specs.Values.{day_number_of}
use Rattle.sheets.specs.Packing.{bits, packed}
use Rattle.sheets.specs.Rules.{fields_of, SheetRules}
use Rattle.sheets.specs.Sheets.{word_of, sheet_of, is_valid, is_packing, unpacking, packing_of, dated, packing, week_widths, week_of_date}
use Rattle.sheets.specs.declared.Sheet.{Sheet}
use Rattle.sheets.proofs.Order.{before_less, less_before, week_order}
use Rattle.sheets.proofs.Sheets.{small, sheet_of_word, word_packs, word_small, packing_valid, packing_again, packing_word}
use Rattle.std.specs.Prelude.{None, Ok, Some}

holds_of : (b : Bool) (s t : Sheet) → cond b (Some s) None ≡ Some t → (b ≡ true) × (s ≡ t)
holds_of true s t e = (refl, cc)
holds_of false s t e = clash (cc)

back : (s : Sheet) → is_valid s ≡ true → unpacking (word_of s) ≡ Some s
unfolding unpacking
back s v = rw (word_packs s v) (ap Some (sheet_of_word s v))

there : (x : ℕ) (s : Sheet) → unpacking x ≡ Some s → (is_valid s ≡ true) × (word_of s ≡ x)
unfolding unpacking
there x s e =
    let h = holds_of (is_packing x) (sheet_of x) s e in
    rw (← h.1) (packing_valid x h.0, packing_again x h.0)

answered : (s : Sheet) → is_valid s ≡ true → packing (fields_of s) ≡ Ok (word_of s)
unfolding packing dated packing_of is_valid
answered s v = rw v

one_week_lem : (s t : Sheet) → is_valid s ≡ true → is_valid t ≡ true → week_of_date s.date ≡ week_of_date t.date
    → (iso_year (day_number_of s.date) ≡ iso_year (day_number_of t.date))
    × (iso_week (day_number_of s.date) ≡ iso_week (day_number_of t.date))
unfolding week_of_date week_widths packed bits
one_week_lem s t v w e =
    let a = number_within _ _ _ (small s v).date in
    let b = number_within _ _ _ (small t w).date in
    let c = iso_week_range (day_number_of s.date) a.0 a.1 in
    let d = iso_week_range (day_number_of t.date) b.0 b.1 in
    (omega (arith, e, c, d), omega (arith, e, c, d))

pub sheet_rules : SheetRules
sheet_rules =
    record {
      packs = λ s v. (word_small s v, back s v);
      unpacks = there;
      answers = answered;
      packings = λ f x e. packing_word f e;
      ordered = λ s t v w. (less_before s t (small s v) (small t w), before_less s t (small s v) (small t w));
      one_week = one_week_lem;
      weeks = λ s t v w h. week_order s t (small s v) (small t w) h;
    }
