-- The answers that have no reason, and the reasons that name no words.
-- Assumes nothing.
use Prim.Native.Nat.{ℕ}
use mathlib.Core.List.{List}
use mathlib.Core.Path.{◌≡◌, refl}
use Rattle.std.specs.Prelude.{Option, None, Some, Result, Ok, Err}
use Rattle.strptime.specs.Answers as reader
use Rattle.strptime.specs.Answers.{reading_of}
use Rattle.strptime.specs.declared.Done.{Done}
use Rattle.strptime.specs.declared.ReadRefusal.{ReadRefusal}
use Rattle.strptime.specs.declared.ReadRefusal.TheVariants.{FormatTooLong, TextTooLong, BadConversion}
use Rattle.strptime.specs.declared.ReadRefusal.TheVariants.{NoMatch, OutOfRange, Contradiction}
use Rattle.strptime.specs.declared.ReadRefusal.TheVariants.{NoDay, NoHour, OpenDay, OpenHour, OverBudget}
use Rattle.calendar.specs.declared.Date.{Date}
use Rattle.reasons.specs.Reasons.{reason_of, no_words, words_for}
use Rattle.reasons.specs.declared.Reason.{Reason}
use Rattle.reasons.specs.declared.Reason.TheVariants.{Quarrel, Differ, Hours}
use Rattle.reasons.specs.declared.About.{About}

-- but for 9 and 10
pub no_reason : (r : Result Done ReadRefusal) → ((n : ℕ) → r ≡ Err (NoDay n) → ⊥) → ((n : ℕ) → r ≡ Err (NoHour n) → ⊥)
    → ((a : Date) (b : Date) (n : ℕ) → r ≡ Err (OpenDay a b n) → ⊥) → ((a : ℕ) (b : ℕ) (n : ℕ) → r ≡ Err (OpenHour a b n) → ⊥)
    → None ≡ reason_of (reading_of r)
unfolding reason_of reader.computes
no_reason (Ok d) x h e g = refl
no_reason (Err FormatTooLong) x h e g = refl
no_reason (Err TextTooLong) x h e g = refl
no_reason (Err (BadConversion p)) x h e g = refl
no_reason (Err (NoMatch p)) x h e g = refl
no_reason (Err (OutOfRange p)) x h e g = refl
no_reason (Err (Contradiction p)) x h e g = refl
no_reason (Err (OverBudget b)) x h e g = refl
no_reason (Err (NoDay n)) x h e g = absurd (x n refl)
no_reason (Err (NoHour n)) x h e g = absurd (h n refl)
no_reason (Err (OpenDay a b n)) x h e g = absurd (e a b n refl)
no_reason (Err (OpenHour a b n)) x h e g = absurd (g a b n refl)

-- but for a quarrel
pub no_words_lem : (r : Option Reason) (es s : List ℕ) → ((a : About) → r ≡ Some (Quarrel a) → ⊥) → no_words ≡ words_for r es s
unfolding words_for
no_words_lem None es s k = refl
no_words_lem (Some (Quarrel a)) es s k = absurd (k a refl)
no_words_lem (Some (Differ p)) es s k = refl
no_words_lem (Some (Hours a b)) es s k = refl
