-- What is owed of lists of sheets and their tables holds.
-- Assumes nothing.
use Prim.Native.Nat.{ℕ, zero, suc, ◌+◌}
use mathlib.Core.Bool.{Bool, true, false, cond}
use mathlib.Core.List.{List, [], ◌∷◌}
use mathlib.Core.Path.{◌≡◌, refl, sym, ap, ◌∙◌}
use native.Mathlib.Decide.{ℕ_discrete}
use native.Mathlib.Omega.{arith}
use borrow.Author.Tests.{eq-eqb, ne_eqb}
use lib.Dec.{eqb, leb}
use Rattle.laws.proofs.Cases.{picked}
use Rattle.calendar.specs.declared.Date.{Date}
use Rattle.calendar.specs.Calendar.{iso_year, iso_week}
use Rattle.sheets.specs.Packing.{bits, packed}
use Rattle.sheets.specs.Sheets.{week_of, week_widths, week_of_date, packing}
use Rattle.sheets.specs.declared.SheetFields.{SheetFields}
use Rattle.values.specs.Values.{day_number_of}
use Rattle.sheet_list.specs.Adding.{Held, list_of, is_held, is_full, with, Outcome, outcome, adding_word, adding, adding_all}
use Rattle.sheet_list.specs.Ascending.{inserted}
use Rattle.sheet_list.specs.Rules.{how_many, of_week, sheets_for, ListRules, Past, held_before, Stopped, AddRules}
use Rattle.sheet_list.specs.Weeks.{Tally, tally, counted, weeks_of, tally_widths, tally_word, table_of}
use Rattle.sheet_list.proofs.Counting.{Cases, cases, counted_less, counted_same, counted_more, weeks_rise}
use Rattle.sheet_list.proofs.Counting.Cases.{less, same, more}
use Rattle.sheet_list.proofs.Holding.{over_front, over_past}
use Rattle.sheet_list.proofs.Ranks.{inserted_ascends}
use Rattle.sheet_list.proofs.Steps.{sheet_undated, sheet_bad, sheet_word, word_unheld, word_full, sheet_cases}
use Rattle.sheet_list.proofs.Steps.{adding_taken, adding_refused}
use Rattle.std.specs.Prelude.{Ok}

-- ---- counting words

one_more : (b : Bool) (n : ℕ) → cond b (suc n) n ≡ n + cond b 1 0
one_more true n = omega arith
one_more false n = omega arith

with_more : (b : Bool) (n c : ℕ) → cond b (suc (n + c)) (n + c) ≡ cond b (suc n) n + c
with_more true n c = omega arith
with_more false n c = omega arith

inserted_many : (p : ℕ → Bool) (x : ℕ) (s : List ℕ) → how_many p (inserted x s) ≡ how_many p s + cond (p x) 1 0
unfolding how_many inserted
inserted_many p x [] = one_more (p x) 0
inserted_many p x (y ∷ s) =
    picked (λ (r : List ℕ). how_many p r ≡ how_many p (y ∷ s) + cond (p x) 1 0) (leb x y) (one_more (p x) (how_many p (y ∷ s)))
    (rw (inserted_many p x s) (with_more (p y) (how_many p s) (cond (p x) 1 0)))

-- ---- counting sheets

first_of : (b : Bool) (n m : ℕ) → cond b (suc n + m) m ≡ cond b (n + m) m + cond b 1 0
first_of true n m = omega arith
first_of false n m = omega arith

new_of : (b : Bool) (m : ℕ) → cond b (1 + m) m ≡ m + cond b 1 0
new_of true m = omega arith
new_of false m = omega arith

later_of : (b : Bool) (n m c : ℕ) → cond b (n + (m + c)) (m + c) ≡ cond b (n + m) m + c
later_of true n m c = omega arith
later_of false n m c = omega arith

counted_for : (k j : ℕ) (ts : List Tally) → sheets_for k (counted j ts) ≡ sheets_for k ts + cond (eqb j k) 1 0
unfolding sheets_for
counted_for k j [] = unfold counted in new_of (eqb j k) 0
counted_for k j (t ∷ ts) = go (counted_for k j ts) (cases j t.week)
  where
    go : sheets_for k (counted j ts) ≡ sheets_for k ts + cond (eqb j k) 1 0 → Cases j t.week
        → sheets_for k (counted j (t ∷ ts)) ≡ sheets_for k (t ∷ ts) + cond (eqb j k) 1 0
    go later (less g) = rw (counted_less j t ts g) (new_of (eqb j k) (sheets_for k (t ∷ ts)))
    go later (same g) = rw (counted_same j t ts g, ← g) (first_of (eqb j k) t.sheets (sheets_for k ts))
    go later (more g) =
        rw (counted_more j t ts g, later) (later_of (eqb t.week k) t.sheets (sheets_for k ts) (cond (eqb j k) 1 0))

weeks_count : (k : ℕ) (s : List ℕ) → sheets_for k (weeks_of s) ≡ of_week k s
unfolding sheets_for weeks_of how_many
weeks_count k [] = refl
weeks_count k (x ∷ s) =
    counted_for k (week_of x) (weeks_of s)
    ∙ ap (λ (n : ℕ). n + cond (eqb (week_of x) k) 1 0) (weeks_count k s)
    ∙ sym (one_more (eqb (week_of x) k) (of_week k s))

table_bits : (t : Date) (n : ℕ)
    → tally_word (tally (week_of_date t) n) ≡ packed (14 ∷ 6 ∷ 44 ∷ []) (iso_year (day_number_of t) ∷ iso_week (day_number_of t) ∷ n ∷ [])
unfolding tally_word tally_widths week_of_date week_widths packed bits
table_bits t n = omega arith

pub list_rules : ListRules
list_rules =
    record {
      kept = λ x y s. inserted_many (λ z. eqb z y) x s;
      ascends = λ x s a. inserted_ascends 0 x s (omega arith) a;
      in_order = weeks_rise;
      counts = weeks_count;
      bits = table_bits;
    }

-- ---- what becomes of a sheet

with_list : (x : ℕ) (h : Held) → list_of (with x h) ≡ inserted x (list_of h)
unfolding with
with_list x h = over_front (inserted x (list_of h)) h.words

with_past : (x : ℕ) (h : Held) → Past h (with x h)
unfolding with
with_past x h =
    record {
      words = over_past (inserted x (list_of h)) h.words;
      table = over_past (table_of (inserted x (list_of h))) h.table;
    }

list_then : (i x : ℕ) (f : SheetFields) (h : Held) → packing f ≡ Ok x → (adding i f h).number ≡ 0
    → list_of (adding i f h).held ≡ inserted x (list_of h)
list_then i x f h e =
    sheet_cases (λ o. o.number ≡ 0 → list_of o.held ≡ inserted x (list_of h)) i f h
    (λ n p l z. absurd (omega (arith, z)))
    (λ y g a b z. with_list y h ∙ ap (λ (u : ℕ). inserted u (list_of h)) (same_word y g))
  where
    same_word : (y : ℕ) → packing f ≡ Ok y → y ≡ x
    same_word y g = cc

past_then : (i : ℕ) (f : SheetFields) (h : Held) → Past h (adding i f h).held
past_then i f h =
    sheet_cases (λ o. Past h o.held) i f h
    (λ n p l. record { words = refl; table = refl })
    (λ x p a b. with_past x h)

added_word : (i x : ℕ) (h : Held) → is_held h ≡ true → is_full x h ≡ false → adding_word i x h ≡ outcome 0 0 (suc i) (with x h)
unfolding adding_word
added_word i x h e f = rw (e, f)

-- ---- many sheets

module _ (sheet : ℕ → SheetFields) where
  counted_all : (i n : ℕ) (h : Held) → (adding_all sheet i n h).number ≡ 0 → (adding_all sheet i n h).index ≡ i + n
  unfolding adding_all
  counted_all i zero h = λ e. omega arith
  counted_all i (suc n) h = go (adding i (sheet i) h) (counted_all (suc i) n (adding i (sheet i) h).held)
    where
      go : (o : Outcome) → ((adding_all sheet (suc i) n o.held).number ≡ 0 → (adding_all sheet (suc i) n o.held).index ≡ suc i + n)
          → (cond (eqb o.number 0) (adding_all sheet (suc i) n o.held) o).number ≡ 0
          → (cond (eqb o.number 0) (adding_all sheet (suc i) n o.held) o).index ≡ i + suc n
      go o later =
          elim (ℕ_discrete o.number 0) [
            | yes z ↦ rw (eq-eqb o.number 0 z) (λ e. omega (arith, later e))
            | no z ↦ rw (ne_eqb o.number 0 z) (λ e. absurd (z e))
          ]

  stopped-here : (i n : ℕ) (h : Held) → ((adding i (sheet i) h).number ≡ 0 → ⊥) → Stopped sheet i (suc n) h (adding i (sheet i) h)
  stopped-here i n h z =
      let e : i + 0 ≡ i = omega arith in
      record {
        before = 0;
        among = omega arith;
        index = (adding_refused i (sheet i) h z).index ∙ sym e;
        refusal = rw e (unfold held_before in refl);
      }

  stopped-later : (i n : ℕ) (h : Held) {o : Outcome} → Stopped sheet (suc i) n (adding i (sheet i) h).held o
      → Stopped sheet i (suc n) h o
  stopped-later i n h s =
      let e : i + suc s.before ≡ suc i + s.before = omega arith in
      record {
        before = suc s.before;
        among = omega (arith, s.among);
        index = s.index ∙ sym e;
        refusal = rw e (unfold held_before in s.refusal);
      }

  stopped : (i n : ℕ) (h : Held) → ((adding_all sheet i n h).number ≡ 0 → ⊥) → Stopped sheet i n h (adding_all sheet i n h)
  unfolding adding_all
  stopped i zero h = λ z. absurd (z refl)
  stopped i (suc n) h = go (stopped (suc i) n (adding i (sheet i) h).held) (ℕ_discrete (adding i (sheet i) h).number 0)
    where
      one : Outcome
      one = adding i (sheet i) h

      go : (((adding_all sheet (suc i) n one.held).number ≡ 0 → ⊥)
          → Stopped sheet (suc i) n one.held (adding_all sheet (suc i) n one.held))
          → Dec (one.number ≡ 0)
          → ((cond (eqb one.number 0) (adding_all sheet (suc i) n one.held) one).number ≡ 0 → ⊥)
          → Stopped sheet i (suc n) h (cond (eqb one.number 0) (adding_all sheet (suc i) n one.held) one)
      go later (yes z) = rw (eq-eqb one.number 0 z) (λ e. stopped-later i n h (later e))
      go later (no z) = rw (ne_eqb one.number 0 z) (λ e. stopped-here i n h z)

pub add_rules : AddRules
add_rules =
    record {
      undated = λ i f h e. sym (sheet_undated i f h e);
      bad = λ i p f h e. sym (sheet_bad i f h e);
      unheld = λ i x f h e a. sym (word_unheld i x h a ∙ sheet_word i f h e);
      full = λ i x f h e a b. sym (word_full i x h a b ∙ sheet_word i f h e);
      added = λ i x f h e a b. sym (sheet_word i f h e) ∙ added_word i x h a b;
      holds = λ i f h z. (adding_taken i f h z).holds;
      list = list_then;
      past = past_then;
      all = counted_all;
      first = stopped;
    }
