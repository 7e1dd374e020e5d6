-- The numbers of texts that are read and of those that are refused, and of which answers nothing is said.
-- Assumes nothing.
use Prim.Native.Nat.{ℕ}
use mathlib.Core.Bool.{true, false}
use mathlib.Core.List.{List, []}
use mathlib.Core.Path.{◌≡◌, refl}
use lib.Dec.{eqb}
use Rattle.calendar.specs.declared.Date.{Date}
use Rattle.matching.specs.declared.extents.Extent.{Extent}
use Rattle.refusals.specs.Sentences.{sentence}
use Rattle.strptime.specs.Answers as reader
use Rattle.strptime.specs.Answers.{refusal_of, reading_of}
use Rattle.std.specs.Prelude.{Result, Ok, Err}
use Rattle.strptime.specs.declared.Done.{Done}
use Rattle.strptime.specs.declared.ReadRefusal.{ReadRefusal}
use Rattle.strptime.specs.declared.ReadRefusal.TheVariants.{FormatTooLong, TextTooLong, BadConversion, NoMatch, OutOfRange}
use Rattle.strptime.specs.declared.ReadRefusal.TheVariants.{Contradiction, OverBudget, NoDay, NoHour, OpenDay, OpenHour}

pub not_done : (r : ReadRefusal) → eqb (refusal_of r).number 0 ≡ false
unfolding reader.computes
not_done FormatTooLong = refl
not_done TextTooLong = refl
not_done (BadConversion p) = refl
not_done (NoMatch p) = refl
not_done (OutOfRange p) = refl
not_done (Contradiction p) = refl
not_done (OverBudget b) = refl
not_done (NoDay n) = refl
not_done (NoHour n) = refl
not_done (OpenDay a b n) = refl
not_done (OpenHour a b n) = refl

pub is_done : (a : Result Done ReadRefusal) → ((r : ReadRefusal) → a ≡ Err r → ⊥) → eqb (reading_of a).number 0 ≡ true
unfolding reader.computes
is_done (Ok d) f = refl
is_done (Err r) f = absurd (f r refl)

-- nothing is said of a text that is read, nor of a budget's number
pub unsaid : (r : Result Done ReadRefusal) (words : List Extent) (s : List ℕ)
    → (r ≡ Err FormatTooLong → ⊥)
    → (r ≡ Err TextTooLong → ⊥)
    → ((p : ℕ) → r ≡ Err (BadConversion p) → ⊥)
    → ((p : ℕ) → r ≡ Err (NoMatch p) → ⊥)
    → ((p : ℕ) → r ≡ Err (OutOfRange p) → ⊥)
    → ((p : ℕ) → r ≡ Err (Contradiction p) → ⊥)
    → ((n : ℕ) → r ≡ Err (NoDay n) → ⊥)
    → ((n : ℕ) → r ≡ Err (NoHour n) → ⊥)
    → ((a : Date) (b : Date) (n : ℕ) → r ≡ Err (OpenDay a b n) → ⊥)
    → ((a : ℕ) (b : ℕ) (n : ℕ) → r ≡ Err (OpenHour a b n) → ⊥)
    → sentence (reading_of r) words s ≡ []
unfolding sentence reader.computes
unsaid (Ok d) words text no0 no1 no2 no3 no4 no5 no6 no7 no8 no9 = refl
unsaid (Err FormatTooLong) words text no0 no1 no2 no3 no4 no5 no6 no7 no8 no9 = absurd (no0 refl)
unsaid (Err TextTooLong) words text no0 no1 no2 no3 no4 no5 no6 no7 no8 no9 = absurd (no1 refl)
unsaid (Err (BadConversion p)) words text no0 no1 no2 no3 no4 no5 no6 no7 no8 no9 = absurd (no2 p refl)
unsaid (Err (NoMatch p)) words text no0 no1 no2 no3 no4 no5 no6 no7 no8 no9 = absurd (no3 p refl)
unsaid (Err (OutOfRange p)) words text no0 no1 no2 no3 no4 no5 no6 no7 no8 no9 = absurd (no4 p refl)
unsaid (Err (Contradiction p)) words text no0 no1 no2 no3 no4 no5 no6 no7 no8 no9 = absurd (no5 p refl)
unsaid (Err (OverBudget b)) words text no0 no1 no2 no3 no4 no5 no6 no7 no8 no9 = refl
unsaid (Err (NoDay n)) words text no0 no1 no2 no3 no4 no5 no6 no7 no8 no9 = absurd (no6 n refl)
unsaid (Err (NoHour n)) words text no0 no1 no2 no3 no4 no5 no6 no7 no8 no9 = absurd (no7 n refl)
unsaid (Err (OpenDay a b n)) words text no0 no1 no2 no3 no4 no5 no6 no7 no8 no9 = absurd (no8 a b n refl)
unsaid (Err (OpenHour a b n)) words text no0 no1 no2 no3 no4 no5 no6 no7 no8 no9 = absurd (no9 a b n refl)
