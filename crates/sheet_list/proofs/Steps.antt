-- Adding, one way out at a time, over plain variables.
-- Assumes nothing.
use Prim.Native.Nat.{ℕ, zero, suc, ◌+◌, ◌-◌, max, ◌≤◌, ◌<◌}
use mathlib.Core.Bool.{true, false, not}
use mathlib.Core.List.{List}
use mathlib.Core.Path.{◌≡◌, refl, sym, ap, ◌∙◌}
use native.Mathlib.Decide.{ℕ_discrete}
use native.Mathlib.Numerals.{add-one}
use native.Mathlib.Omega.{arith}
use borrow.Author.Tests.{eq-eqb, ne_eqb}
use lib.ListN.{length, take}
use Rattle.laws.proofs.Cases.{either}
use Rattle.sheets.specs.Sheets.{week_of, packing}
use Rattle.sheets.proofs.Sheets.{packing_word}
use Rattle.sheets.specs.declared.SheetFields.{SheetFields}
use Rattle.sheet_list.specs.Adding.{Held, held, list_of, most_words, table_length, is_held, is_full, over, with, Outcome, outcome}
use Rattle.sheet_list.specs.Adding.{adding_word, adding_packed, adding, adding_all}
use Rattle.sheet_list.specs.Ascending.{inserted}
use Rattle.sheet_list.specs.Private.{counted_in, week_in}
use Rattle.sheet_list.specs.Weeks.{table_of}
use Rattle.sheet_list.proofs.Holding.{Sound, sound, is_held_lem, list_length, table_with, week_among, with_sound, with_words}
use Rattle.sheet_list.proofs.Ranks.{inserted_length}
use Rattle.std.specs.Prelude.{Err, Ok, Result, ℕ}
use Rattle.sheets.specs.declared.Unpackable.TheVariants.{Bad, NoDay}
use Rattle.values.specs.Moments.{field_number}
use Rattle.values.specs.declared.fields.Field.{Field}
use Rattle.sheets.specs.declared.Unpackable.{Unpackable}

-- ---- 14

module _ (x : ℕ) (h : Held) where
  pub full_array : h.count ≡ length h.words → true ≡ is_full x h
  unfolding is_full
  full_array e = rw (eq-eqb h.count (length h.words) e)

  module _ (n : h.count ≡ length h.words → ⊥) where
    pub weeks_left : (h.weeks ≡ table_length → ⊥) → false ≡ is_full x h
    unfolding is_full
    weeks_left m = rw (ne_eqb h.count (length h.words) n, ne_eqb h.weeks table_length m)

    pub by_weeks : Sound h → h.weeks ≡ table_length → is_full x h ≡ not (week_in (week_of x) (take h.weeks h.table))
    unfolding is_full
    by_weeks v e = rw (ne_eqb h.count (length h.words) n, eq-eqb h.weeks table_length e, week_among h v (week_of x))

-- ---- one word more

pub put_is : (x : ℕ) (h : Held) → Sound h → {w t : List ℕ} {k n : ℕ} → k ≡ week_of x
    → w ≡ over (inserted x (list_of h)) h.words
    → n ≡ length (counted_in k (take h.weeks h.table))
    → t ≡ over (counted_in k (take h.weeks h.table)) h.table
    → held w (h.count + 1) t n ≡ with x h
unfolding with
put_is x h v {w} {t} {k} {n} e p q r =
    let c : h.count + 1 ≡ length (inserted x (list_of h)) = omega (arith, inserted_length x (list_of h), list_length h v) in
    let f : counted_in k (take h.weeks h.table) ≡ table_of (inserted x (list_of h))
    = ap (λ (l : ℕ). counted_in l (take h.weeks h.table)) e ∙ table_with h v x in
    rw (p, q, r, c, f)

-- ---- a word: 15, 14, or added

module _ (i x : ℕ) (h : Held) where
  pub word_unheld : is_held h ≡ false → outcome 15 0 i h ≡ adding_word i x h
  unfolding adding_word
  word_unheld e = rw e

  pub word_full : is_held h ≡ true → is_full x h ≡ true → outcome 14 0 i h ≡ adding_word i x h
  unfolding adding_word
  word_full e f = rw (e, f)

  pub word_added : is_held h ≡ true → is_full x h ≡ false → {g : Held} → g ≡ with x h → outcome 0 0 (i + 1) g ≡ adding_word i x h
  unfolding adding_word
  word_added e f p = rw (e, f, p, add-one)

-- ---- a sheet: 13, 2, or its word

module _ (i : ℕ) (f : SheetFields) (h : Held) where
  pub sheet_undated : packing f ≡ Err NoDay → outcome 13 0 i h ≡ adding i f h
  unfolding adding adding_packed
  sheet_undated e = rw e

  pub sheet_bad : {p : Field} → packing f ≡ Err (Bad p) → outcome 2 (field_number p) i h ≡ adding i f h
  unfolding adding adding_packed
  sheet_bad e = rw e

  pub sheet_word : {x : ℕ} → packing f ≡ Ok x → adding_word i x h ≡ adding i f h
  unfolding adding adding_packed
  sheet_word e = rw e

-- ---- whatever becomes of a sheet: it is refused and all is left as it was, or its word is added

module _ (P : Outcome → Type 0) (i : ℕ) (f : SheetFields) (h : Held) (refused : (n p : ℕ) → 0 < n → P (outcome n p i h))
    (added : (x : ℕ) → packing f ≡ Ok x → is_held h ≡ true → is_full x h ≡ false → P (outcome 0 0 (suc i) (with x h))) where
  word-cases : (x : ℕ) → packing f ≡ Ok x → P (adding_word i x h)
  unfolding adding_word
  word-cases x p =
      either P (is_held h)
      (λ e. either P (is_full x h) (λ _. refused 14 0 (omega arith)) (λ g. added x p e g))
      (λ _. refused 15 0 (omega arith))

  pub sheet_cases : P (adding i f h)
  unfolding adding adding_packed
  sheet_cases = go (packing f) refl
    where
      go : (p : Result ℕ Unpackable) → packing f ≡ p → P (adding_packed i p h)
      go (Err NoDay) e = refused 13 0 (omega arith)
      go (Err (Bad k)) e = refused 2 (field_number k) (omega arith)
      go (Ok x) e = word-cases x e

-- the arrays keep their lengths
pub record Lengths (h g : Held) : Type 0 where
  pub words : length g.words ≡ length h.words
  pub table : length g.table ≡ length h.table

pub adding_lengths : (i : ℕ) (f : SheetFields) (h : Held) → Lengths h (adding i f h).held
adding_lengths i f h =
    sheet_cases (λ o. Lengths h o.held) i f h
    (λ n p l. record { words = refl; table = refl })
    (λ x p e r.
    let v = sound h e in
    let w = with_sound h v x r (packing_word f p) in
    record { words = with_words h v x r; table = w.size ∙ sym v.size })

-- a sheet that is added is counted, and both arrays hold what they should
pub record Taken (i : ℕ) (h : Held) (o : Outcome) : Type 0 where
  pub place : o.place ≡ 0
  pub index : o.index ≡ suc i
  pub holds : is_held o.held ≡ true
  pub count : o.held.count ≡ suc h.count

with_count : (x : ℕ) (h : Held) → Sound h → (with x h).count ≡ suc h.count
unfolding with
with_count x h v = inserted_length x (list_of h) ∙ ap suc (list_length h v)

pub adding_taken : (i : ℕ) (f : SheetFields) (h : Held) → (adding i f h).number ≡ 0 → Taken i h (adding i f h)
adding_taken i f h =
    sheet_cases (λ o. o.number ≡ 0 → Taken i h o) i f h
    (λ n p l z. absurd (omega (arith, z)))
    (λ x p e r z.
    let v = sound h e in
    record {
      place = refl;
      index = refl;
      holds = is_held_lem (with x h) (with_sound h v x r (packing_word f p));
      count = with_count x h v;
    })

-- a sheet that is refused leaves all as it was
pub record Refused (i : ℕ) (h : Held) (o : Outcome) : Type 0 where
  pub held : o.held ≡ h
  pub index : o.index ≡ i

pub adding_refused : (i : ℕ) (f : SheetFields) (h : Held) → ((adding i f h).number ≡ 0 → ⊥) → Refused i h (adding i f h)
adding_refused i f h =
    sheet_cases (λ o. (o.number ≡ 0 → ⊥) → Refused i h o) i f h
    (λ n p l z. record { held = refl; index = refl })
    (λ x p e r z. absurd (z refl))

-- ---- many

module _ (sheet : ℕ → SheetFields) (i m : ℕ) (h : Held) (l : i < m) where
  left : m - i ≡ suc (m - suc i)
  left = omega arith

  pub all_stops : ((adding i (sheet i) h).number ≡ 0 → ⊥) → adding_all sheet i (m - i) h ≡ adding i (sheet i) h
  all_stops n = rw left (unfold adding_all in rw (ne_eqb (adding i (sheet i) h).number 0 n))

  pub all_goes : (adding i (sheet i) h).number ≡ 0
      → adding_all sheet i (m - i) h ≡ adding_all sheet (suc i) (m - suc i) (adding i (sheet i) h).held
  all_goes e = rw left (unfold adding_all in rw (eq-eqb (adding i (sheet i) h).number 0 e))

pub all_ends : (sheet : ℕ → SheetFields) (i m : ℕ) (h : Held) → m ≤ i → adding_all sheet i (m - i) h ≡ outcome 0 0 i h
all_ends sheet i m h l = let e : m - i ≡ 0 = omega arith in rw e (unfold adding_all in refl)

-- ---- how large the counts can get

-- no count is larger than it was, or than the array; and no more sheets were added than the count has grown
pub record Bounded (i : ℕ) (h : Held) (o : Outcome) : Type 0 where
  pub count : o.held.count ≤ max h.count most_words
  pub weeks : o.held.weeks ≤ max h.weeks table_length
  pub index : o.index + h.count ≤ i + o.held.count

pub all_bounded : (sheet : ℕ → SheetFields) (i n : ℕ) (h : Held) → Bounded i h (adding_all sheet i n h)
unfolding adding_all
all_bounded sheet i zero h = record { count = omega arith; weeks = omega arith; index = omega arith }
all_bounded sheet i (suc n) h =
    let o = adding i (sheet i) h in
    elim (ℕ_discrete o.number 0) [
      | yes e ↦
          let t = adding_taken i (sheet i) h e in
          let v = sound o.held t.holds in
          let b = all_bounded sheet (suc i) n o.held in
          rw (eq-eqb o.number 0 e)
          (record {
            count = omega (arith, b.count, v.within, v.short);
            weeks = omega (arith, b.weeks, v.inside);
            index = omega (arith, b.index, t.count);
          })
      | no e ↦
          let r = adding_refused i (sheet i) h e in
          rw (ne_eqb o.number 0 e)
          (record {
            count = rw r.held (omega arith);
            weeks = rw r.held (omega arith);
            index = rw (r.held, r.index) (omega arith);
          })
    ]
