-- Sheets counted by their weeks alone: what their weeks are like, and what the table holds.
-- Assumes nothing.
use Prim.Native.Nat.{ℕ, suc, ◌+◌, ◌-◌, min, ◌≤◌, ◌<◌}
use mathlib.Core.Bool.{Bool, true, false, not, ◌&&◌, ◌||◌, and-eq-true_iff}
use mathlib.Core.List.{List, [], ◌∷◌, ◌++◌, map}
use mathlib.Core.Path.{◌≡◌, refl, sym, ap, ◌∙◌}
use native.Mathlib.Decide.{dec_le}
use native.Mathlib.Numerals.{add-one}
use native.Mathlib.Omega.{arith}
use borrow.Author.Tests.{eq-eqb, ne_eqb, eqb-false}
use lib.Dec.{eqb, lit≤}
use lib.ListN.{length, get_or, take, drop, length-map}
use lib.Seq.{take-suc, drop-append-add, drop-drop, length-take-le, take_all}
use Rattle.laws.proofs.Cases.{either, clash}
use Rattle.sheets.specs.Sheets.{is_packing, week_of}
use Rattle.sheet_list.specs.Adding.{most_words, table_length, over}
use Rattle.sheet_list.specs.Ascending.{ascending}
use Rattle.sheet_list.specs.Private.{week, counted_in, week_in, room_in, IsTallied}
use Rattle.sheet_list.specs.Tallies.{Tallies, tallies, no_tallies, has_room, with_sheet, with_sheets, tallies_of}
use Rattle.sheet_list.specs.Rules.{Rising}
use Rattle.sheet_list.specs.Weeks.{Tally, counted, tally_word, has_week}
use Rattle.sheet_list.specs.declared.tallies.Tallied.{Tallied}
use Rattle.sheet_list.proofs.Holding.{over_front, over_length}
use Rattle.sheet_list.proofs.Counting.{Most, counted_rises, counted_sheets, counted_among, counted_most, most_more}
use Rattle.sheet_list.proofs.Counting.{Cases, less, same, more, cases, counted_less, counted_same, counted_more}
use Rattle.sheet_list.proofs.Tables.{counted_words, in_words, table_ascends}

-- one sheet more at the end
with_last : (xs : List ℕ) (x : ℕ) (a : Tallies) → with_sheets (xs ++ (x ∷ [])) a ≡ with_sheet x (with_sheets xs a)
unfolding with_sheets
with_last [] x a = refl
with_last (y ∷ xs) x a = with_last xs x (with_sheet y a)

pub next_sheet : (s : List ℕ) (i : ℕ) → i < length s → tallies_of (take (i + 1) s) ≡ with_sheet (get_or s i 0) (tallies_of (take i s))
next_sheet s i h = rw (add-one, take-suc s i 0 h) (with_last (take i s) (get_or s i 0) no_tallies)

-- ---- each case

module _ (x : ℕ) (a : Tallies) where
  pub sheet_counted : (is_packing x && has_room (week_of x) a.weeks) ≡ true
      → with_sheet x a ≡ tallies (counted (week_of x) a.weeks) a.left
  unfolding with_sheet
  sheet_counted e = rw e

  pub sheet_left : (is_packing x && has_room (week_of x) a.weeks) ≡ false → with_sheet x a ≡ tallies a.weeks (suc a.left)
  unfolding with_sheet
  sheet_left e = rw e

-- ---- what the weeks of n sheets are like: in order, each once; with at most n sheets each; at most 1,024

pub record Good (n : ℕ) (ts : List Tally) : Type 0 where
  pub rises : Rising 0 ts
  pub most : Most n ts
  pub few : length ts ≤ table_length

room_fits : (k : ℕ) (ts : List Tally) → Rising 0 ts → length ts ≤ table_length → has_room k ts ≡ true → length (counted k ts) ≤ table_length
unfolding has_room
room_fits k ts r l e = go (eqb (length ts) table_length) refl (has_week k ts) refl
  where
    go : (b : Bool) → eqb (length ts) table_length ≡ b → (c : Bool) → has_week k ts ≡ c → length (counted k ts) ≤ table_length
    go false p c q = omega (arith, counted_most k ts, eqb-false (length ts) table_length p)
    go true p true q = omega (arith, counted_among 0 k ts r q)
    go true p false q =
        let z : (not (eqb (length ts) table_length) || has_week k ts) ≡ false = rw (p, q) in
        clash (cc)

with_good : (n x : ℕ) (a : Tallies) → Good n a.weeks → Good (suc n) (with_sheet x a).weeks
unfolding with_sheet
with_good n x a g =
    either (λ (b : Tallies). Good (suc n) b.weeks) (is_packing x && has_room (week_of x) a.weeks)
    (λ e.
    let t = (and-eq-true_iff (is_packing x) (has_room (week_of x) a.weeks)).0 e in
    record {
      rises = counted_rises 0 (week_of x) a.weeks (omega arith) g.rises;
      most = counted_sheets n (week_of x) a.weeks g.most;
      few = room_fits (week_of x) a.weeks g.rises g.few t.1;
    })
    (λ _. record { rises = g.rises; most = most_more n (suc n) a.weeks (omega arith) g.most; few = g.few })

all_good : (n : ℕ) (xs : List ℕ) (a : Tallies) → Good n a.weeks → Good (n + length xs) (with_sheets xs a).weeks
unfolding with_sheets
all_good n [] a g = let e : n + 0 ≡ n = omega arith in rw e g
all_good n (x ∷ xs) a g =
    let e : n + suc (length xs) ≡ suc n + length xs = omega arith in
    rw e (all_good (suc n) xs (with_sheet x a) (with_good n x a g))

pub good : (xs : List ℕ) → Good (length xs) (tallies_of xs).weeks
good xs =
    let e : 0 + length xs ≡ length xs = omega arith in
    rw e at (all_good 0 xs no_tallies (record { rises = unfold Rising in tt; most = unfold Most in tt; few = lit≤ tt }))

least : (k : ℕ) (ts : List Tally) → length ts ≤ length (counted k ts)
least k [] = omega arith
least k (t ∷ ts) = go (least k ts) (cases k t.week)
  where
    go : length ts ≤ length (counted k ts) → Cases k t.week → suc (length ts) ≤ length (counted k (t ∷ ts))
    go later (less g) = rw (counted_less k t ts g) (omega arith)
    go later (same g) = rw (counted_same k t ts g) (omega arith)
    go later (more g) = rw (counted_more k t ts g) (omega arith)

grows : (x : ℕ) (a : Tallies) → length a.weeks ≤ length (with_sheet x a).weeks
unfolding with_sheet
grows x a =
    either (λ (b : Tallies). length a.weeks ≤ length b.weeks) (is_packing x && has_room (week_of x) a.weeks)
    (λ _. least (week_of x) a.weeks) (λ _. omega arith)

-- ---- a list over the front of an array

over_over : (s r t : List ℕ) → length r ≤ length s → over s (over r t) ≡ over s t
unfolding over
over_over s r t l =
    let e : length s ≡ length r + (length s - length r) = omega arith in
    let d : drop (length s) (r ++ drop (length r) t) ≡ drop (length s) t
    = ap (λ (n : ℕ). drop n (r ++ drop (length r) t)) e
    ∙ drop-append-add r (drop (length r) t) (length s - length r)
    ∙ drop-drop (length s - length r) (length r) t
    ∙ ap (λ (n : ℕ). drop n t) (sym e) in
    rw d

-- ---- the table

abbrev words : List Tally → List ℕ
words ts = map tally_word ts

words_length : (ts : List Tally) → length (words ts) ≡ length ts
words_length ts = length-map ts tally_word

module _ {xs before after : List ℕ} {t : Tallied} (v : IsTallied xs before after t) where
  -- its first words are those of the weeks
  pub front : take t.weeks after ≡ words (tallies_of xs).weeks
  front =
      let e : t.weeks ≡ length (words (tallies_of xs).weeks) = v.weeks ∙ sym (words_length (tallies_of xs).weeks) in
      rw (e, v.table) (over_front (words (tallies_of xs).weeks) before)

  pub table_size : length before ≡ table_length → length after ≡ table_length
  table_size size =
      let w = words (tallies_of xs).weeks in
      ap length v.table ∙ over_length w before (omega (arith, words_length (tallies_of xs).weeks, (good xs).few, size)) ∙ size

  pub within : length after ≡ table_length → t.weeks ≤ length after
  within size = omega (arith, size, v.weeks, (good xs).few)

  -- they stand over the table as it is now, too
  pub again : IsTallied xs after after t
  again =
      record {
        table = rw v.table (sym (over_over _ _ before (omega arith)));
        weeks = v.weeks;
        left = v.left;
      }

  -- with one sheet more
  pub onward : (s : List ℕ) (i : ℕ) → i < length s → xs ≡ take i s → {then : List ℕ} {u : Tallied}
      → IsTallied (take (i + 1) s) after then u → IsTallied (take (i + 1) s) before then u
  onward s i l e {then} {u} w =
      let g : length (tallies_of xs).weeks ≤ length (tallies_of (take (i + 1) s)).weeks
      = rw (next_sheet s i l, e) (grows (get_or s i 0) (tallies_of (take i s))) in
      record {
        table =
            w.table
            ∙ rw v.table
            (over_over _ _ before (omega (arith, words_length (tallies_of xs).weeks, words_length (tallies_of (take (i + 1) s)).weeks)));
        weeks = w.weeks;
        left = w.left;
      }

  module _ (short : length xs < week) where
    m : Most (length xs) (tallies_of xs).weeks
    m = (good xs).most

    pub table_rises : ascending (take t.weeks after) ≡ true
    table_rises = rw front (table_ascends (length xs) 0 0 (tallies_of xs).weeks short (omega arith) (good xs).rises m)

    pub room_is : (k : ℕ) → room_in k (take t.weeks after) ≡ has_room k (tallies_of xs).weeks
    unfolding room_in has_room
    room_is k = rw (front, words_length (tallies_of xs).weeks, in_words (length xs) k short (tallies_of xs).weeks m)

    pub counted_is : (k : ℕ) → counted_in k (take t.weeks after) ≡ words (counted k (tallies_of xs).weeks)
    counted_is k = rw front (counted_words (length xs) k short (tallies_of xs).weeks m)

    module _ (x : ℕ) where
      counts : (is_packing x && room_in (week_of x) (take t.weeks after)) ≡ (is_packing x && has_room (week_of x) (tallies_of xs).weeks)
      counts = rw (room_is (week_of x))

      pub counted_fits : length after ≡ table_length → (is_packing x && room_in (week_of x) (take t.weeks after)) ≡ true
          → length (counted_in (week_of x) (take t.weeks after)) ≤ length after
      counted_fits size e =
          let r = ((and-eq-true_iff (is_packing x) (has_room (week_of x) (tallies_of xs).weeks)).0 (sym counts ∙ e)).1 in
          let f = room_fits (week_of x) (tallies_of xs).weeks (good xs).rises (good xs).few r in
          rw (counted_is (week_of x)) (omega (arith, words_length (counted (week_of x) (tallies_of xs).weeks), size))

-- ---- one sheet more

module _ (s table : List ℕ) (i : ℕ) {t : Tallied} (v : IsTallied (take i s) table table t) (h : i < length s) (short : i < most_words) where
  abbrev a : Tallies
  a = tallies_of (take i s)

  abbrev x : ℕ
  x = get_or s i 0

  few : length (take i s) < week
  few = omega (arith, length-take-le i s (omega arith))

  pub stays : (is_packing x && room_in (week_of x) (take t.weeks table)) ≡ false
      → IsTallied (take (i + 1) s) table table (record { weeks = t.weeks; left = t.left + 1 })
  stays e =
      let n = next_sheet s i h ∙ sheet_left x a (sym (counts v few x) ∙ e) in
      record {
        table = rw n v.table;
        weeks = rw n v.weeks;
        left = rw (n, add-one) (ap suc v.left);
      }

  pub counted_more_is : (is_packing x && room_in (week_of x) (take t.weeks table)) ≡ true → {k w : ℕ} {then : List ℕ} → k ≡ week_of x
      → w ≡ length (counted_in k (take t.weeks table)) → then ≡ over (counted_in k (take t.weeks table)) table
      → IsTallied (take (i + 1) s) table then (record { weeks = w; left = t.left })
  counted_more_is e {k} {w} {then} p q r =
      let n = next_sheet s i h ∙ sheet_counted x a (sym (counts v few x) ∙ e) in
      let c : counted_in k (take t.weeks table) ≡ words (counted (week_of x) a.weeks)
      = ap (λ (l : ℕ). counted_in l (take t.weeks table)) p ∙ counted_is v few (week_of x) in
      record {
        table = rw n (r ∙ ap (λ (l : List ℕ). over l table) c);
        weeks = rw n (q ∙ ap length c ∙ words_length (counted (week_of x) a.weeks));
        left = rw n v.left;
      }

-- ---- whether a sheet is counted, on a table's words

module _ (x : ℕ) (t : List ℕ) where
  module _ (p : is_packing x ≡ true) where
    pub weeks_free : (length t ≡ table_length → ⊥) → true ≡ (is_packing x && room_in (week_of x) t)
    unfolding room_in
    weeks_free n = rw (p, ne_eqb (length t) table_length n)

    pub by_week : length t ≡ table_length → {k : ℕ} {b : Bool} → k ≡ week_of x → b ≡ week_in k t → b
        ≡ (is_packing x && room_in (week_of x) t)
    unfolding room_in
    by_week e q r = rw (p, eq-eqb (length t) table_length e, ← q) r

-- no more are left out than there are
left_with : (xs : List ℕ) (a : Tallies) → (with_sheets xs a).left ≤ a.left + length xs
unfolding with_sheets with_sheet
left_with [] a = omega arith
left_with (x ∷ xs) a =
    let l = left_with xs (with_sheet x a) in
    let m : (with_sheet x a).left ≤ suc a.left
    = either (λ (b : Tallies). b.left ≤ suc a.left) (is_packing x && has_room (week_of x) a.weeks) (λ _. omega arith)
    (λ _. omega arith) in
    omega arith

pub left_most : (xs : List ℕ) → (tallies_of xs).left ≤ length xs
left_most xs = omega (arith, left_with xs no_tallies)

-- ---- the loop

pub tallied_start : (s before : List ℕ) → IsTallied (take 0 s) before before (record { weeks = 0; left = 0 })
unfolding with_sheets over
tallied_start s before = record { table = refl; weeks = refl; left = refl }

-- the words that are looked at are all of the first so many
pub first_most : (w : List ℕ) (i : ℕ) → i ≡ min (length w) most_words → take most_words w ≡ take i w
first_most w i e =
    elim (dec_le (length w) most_words) [
      | yes l ↦ take_all most_words w l ∙ sym (take_all i w (omega (arith, e, l)))
      | no l ↦ let f : i ≡ most_words = omega (arith, e, l) in rw f
    ]
