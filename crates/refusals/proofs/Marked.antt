-- What is marked, over plain variables.
-- Assumes nothing.
use Prim.Native.Nat.{ℕ, zero, suc, ◌+◌}
use mathlib.Core.List.{List, [], ◌∷◌}
use mathlib.Core.Path.{◌≡◌, refl, ap}
use lib.ListN.{get_or, replicate}
use Rattle.conversions.specs.Conversions.{among}
use Rattle.kinds.specs.Kinds.{kinds}
use Rattle.lists.specs.Putting.{each}
use Rattle.matching.specs.Extents.{extent, nowhere}
use Rattle.matching.specs.declared.extents.Extent.{Extent}
use Rattle.strptime.specs.Answers as reader
use Rattle.std.specs.Prelude.{Ok}
use Rattle.strptime.specs.Answers.{refusal_of, reading_of}
use Rattle.strptime.specs.declared.Done.{Done}
use Rattle.strptime.specs.declared.ReadRefusal.{ReadRefusal}
use Rattle.strptime.specs.declared.ReadRefusal.TheVariants.{FormatTooLong, TextTooLong, BadConversion, NoMatch, OutOfRange}
use Rattle.strptime.specs.declared.ReadRefusal.TheVariants.{Contradiction, OverBudget, NoDay, NoHour, OpenDay, OpenHour}
use Rattle.refusals.specs.Marks.{marked, covers, is_marked, last_mark, mark_at, marks_to, marks_line}
use Rattle.refusals.proofs.Over.{some_alike, most_alike}

-- one extent, and no words after it
nothing_more : (n k : ℕ) → get_or (replicate n nowhere) k nowhere ≡ nowhere
nothing_more zero k = refl
nothing_more (suc n) zero = refl
nothing_more (suc n) (suc k) = nothing_more n k

pub only_one : (n p k : ℕ) → get_or (extent p (p + 1) ∷ replicate n nowhere) k nowhere ≡ get_or (extent p (p + 1) ∷ []) k nowhere
only_one n p zero = refl
only_one n p (suc k) = nothing_more n k

-- ---- extents that are alike by kind have the same marks
module _ (xs ys : List Extent) (e : (k : ℕ) → get_or xs k nowhere ≡ get_or ys k nowhere) where
  same-marked : (i : ℕ) → is_marked xs i ≡ is_marked ys i
  unfolding is_marked
  same-marked i = some_alike _ _ (λ k. ap (λ (x : Extent). covers x i) (e k)) kinds

  same-last : last_mark xs ≡ last_mark ys
  unfolding last_mark
  same-last = most_alike _ _ (λ k. ap (λ (x : Extent). x.next) (e k)) kinds

  same-marks : (n : ℕ) → marks_to xs n ≡ marks_to ys n
  unfolding each mark_at
  same-marks zero = refl
  same-marks (suc n) = rw (same-marks n, same-marked n)

  pub same_line : marks_line xs ≡ marks_line ys
  unfolding marks_line
  same_line = rw (same-last, same-marks (last_mark ys))

-- ---- refusals whose place is not marked
pub by_words : (r : ReadRefusal) (words : List Extent)
    → ((p : ℕ) → r ≡ NoMatch p → ⊥)
    → ((p : ℕ) → r ≡ OutOfRange p → ⊥)
    → ((p : ℕ) → r ≡ Contradiction p → ⊥)
    → marked (refusal_of r) words ≡ words
unfolding marked reader.computes among
by_words FormatTooLong words no0 no1 no2 = refl
by_words TextTooLong words no0 no1 no2 = refl
by_words (BadConversion p) words no0 no1 no2 = refl
by_words (NoMatch p) words no0 no1 no2 = absurd (no0 p refl)
by_words (OutOfRange p) words no0 no1 no2 = absurd (no1 p refl)
by_words (Contradiction p) words no0 no1 no2 = absurd (no2 p refl)
by_words (OverBudget b) words no0 no1 no2 = refl
by_words (NoDay n) words no0 no1 no2 = refl
by_words (NoHour n) words no0 no1 no2 = refl
by_words (OpenDay a b n) words no0 no1 no2 = refl
by_words (OpenHour a b n) words no0 no1 no2 = refl

-- nor has a text that is read a place that is marked
pub read_by_words : (d : Done) (words : List Extent) → marked (reading_of (Ok d)) words ≡ words
unfolding marked reader.computes among
read_by_words d words = refl
