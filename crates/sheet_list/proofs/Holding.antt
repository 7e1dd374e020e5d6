-- What both arrays hold: each test of it, and that adding a sheet keeps it.
-- Assumes nothing.
use Prim.Native.Nat.{ℕ, ◌≤◌, ◌<◌}
use mathlib.Core.Bool.{Bool, true, false, not, ◌&&◌, ◌||◌, and-eq-true_iff}
use mathlib.Core.List.{List, [], ◌∷◌, map}
use mathlib.Core.Path.{◌≡◌, refl, sym, ap, ◌∙◌}
use native.Mathlib.Omega.{arith}
use borrow.Author.Tests.{le-leb, leb-true, eq-eqb, eqb-true, eqb-false}
use lib.Dec.{eqb, leb}
use lib.ListN.{length, take, drop, length-map, length-append, length-drop}
use lib.Seq.{length-take-le, take_at, drop_at}
use Rattle.laws.specs.Lists.{every}
use Rattle.laws.proofs.Cases.{clash}
use Rattle.sheets.specs.Sheets.{is_packing, week_of}
use Rattle.sheet_list.specs.Adding.{Held, list_of, most_words, table_length, same, is_held, is_full, over, with}
use Rattle.sheet_list.specs.Ascending.{ascending, inserted}
use Rattle.sheet_list.specs.Private.{week, counted_in, week_in, Listed}
use Rattle.sheet_list.specs.Weeks.{counted, weeks_of, tally_word, table_of, has_week}
use Rattle.sheet_list.proofs.Counting.{inserted_weeks, weeks_rise, weeks_most, counted_among, counted_most}
use Rattle.sheet_list.proofs.Ranks.{inserted_length, inserted_every, inserted_ascends}
use Rattle.sheet_list.proofs.Tables.{counted_words, in_words, table_ascends}

-- ---- the tests

and_right : (a b c : Bool) → (a && b) ≡ true → (a && (b && c)) ≡ c
and_right a b c e = let t = (and-eq-true_iff a b).0 e in rw (t.0, t.1)

pub by_table : (h : Held) → length h.words ≤ most_words → h.count ≤ length h.words → length h.table ≡ table_length
    → h.weeks ≤ length h.table
    → (every is_packing (list_of h) && ascending (list_of h)) ≡ true
    → is_held h ≡ same (take h.weeks h.table) (table_of (list_of h))
unfolding is_held
by_table h short within size inside e =
    rw (
      le-leb (length h.words) most_words short,
      le-leb h.count (length h.words) within,
      eq-eqb (length h.table) table_length size,
      le-leb h.weeks (length h.table) inside,
    )
    (and_right (every is_packing (list_of h)) (ascending (list_of h)) _ e)

pub listed : (s : List ℕ) → length s ≤ most_words → (every is_packing s && ascending s) ≡ true → Listed s
listed s l e =
    let t = (and-eq-true_iff (every is_packing s) (ascending s)).0 e in
    record { short = l; packings = t.0; ascends = t.1 }

-- ---- all of them at once

same_is : (s t : List ℕ) → same s t ≡ true → s ≡ t
unfolding same
same_is [] [] e = refl
same_is [] (y ∷ t) e = clash (cc)
same_is (x ∷ s) [] e = clash (cc)
same_is (x ∷ s) (y ∷ t) e =
    let b = (and-eq-true_iff (eqb x y) (same s t)).0 e in
    rw (eqb-true x y b.0, same_is s t b.1)

is_same : (s : List ℕ) → same s s ≡ true
unfolding same
is_same [] = refl
is_same (x ∷ s) = rw (eq-eqb x x refl) (is_same s)

pub record Sound (h : Held) : Type 0 where
  pub short : length h.words ≤ most_words
  pub within : h.count ≤ length h.words
  pub size : length h.table ≡ table_length
  pub inside : h.weeks ≤ table_length
  pub packings : every is_packing (list_of h) ≡ true
  pub ascends : ascending (list_of h) ≡ true
  pub table : take h.weeks h.table ≡ table_of (list_of h)

and_split : (a : Bool) {b : Bool} → (a && b) ≡ true → (a ≡ true) × (b ≡ true)
and_split true e = (refl, e)
and_split false e = clash (cc)

pub sound : (h : Held) → is_held h ≡ true → Sound h
unfolding is_held
sound h e =
    let a = and_split (leb (length h.words) most_words) e in
    let b = and_split (leb h.count (length h.words)) a.1 in
    let c = and_split (eqb (length h.table) table_length) b.1 in
    let d = and_split (leb h.weeks (length h.table)) c.1 in
    let f = and_split (every is_packing (list_of h)) d.1 in
    let g = and_split (ascending (list_of h)) f.1 in
    record {
      short = leb-true _ _ a.0;
      within = leb-true _ _ b.0;
      size = eqb-true _ _ c.0;
      inside = omega (arith, leb-true h.weeks (length h.table) d.0, eqb-true (length h.table) table_length c.0);
      packings = f.0;
      ascends = g.0;
      table = same_is _ _ g.1;
    }

pub not_held : (h : Held) → (Sound h → ⊥) → false ≡ is_held h
not_held h n = go (is_held h) refl
  where
    go : (b : Bool) → is_held h ≡ b → false ≡ b
    go true e = absurd (n (sound h e))
    go false e = refl

pub no_list : (h : Held) → (every is_packing (list_of h) && ascending (list_of h)) ≡ false → false ≡ is_held h
no_list h e = not_held h (λ v. let f : true ≡ false = rw (v.packings, v.ascends) at e in clash (cc))

pub is_held_lem : (h : Held) → Sound h → is_held h ≡ true
unfolding is_held
is_held_lem h v =
    rw (
      le-leb (length h.words) most_words v.short,
      le-leb h.count (length h.words) v.within,
      eq-eqb (length h.table) table_length v.size,
      le-leb h.weeks (length h.table) (omega (arith, v.size, v.inside)),
      v.packings,
      v.ascends,
      v.table,
    )
    (is_same (table_of (list_of h)))

-- ---- a list over the front of an array

pub over_length : (s array : List ℕ) → length s ≤ length array → length (over s array) ≡ length array
unfolding over
over_length s array l = simp (length-append, length-drop) (omega arith)

pub over_front : (s array : List ℕ) → take (length s) (over s array) ≡ s
unfolding over
over_front s array = take_at s (drop (length s) array) (length s) refl

pub over_past : (s array : List ℕ) → drop (length s) (over s array) ≡ drop (length s) array
unfolding over
over_past s array = drop_at s (drop (length s) array) (length s) refl

-- ---- what is known of the list and of its table

few : (s : List ℕ) → length s ≤ most_words → length s < week
few s h = omega arith

module _ (h : Held) (v : Sound h) where
  pub list_length : length (list_of h) ≡ h.count
  list_length = length-take-le h.count h.words v.within

  short-list : length (list_of h) < week
  short-list = omega (arith, list_length, v.short, v.within)

  pub table_rises : ascending (take h.weeks h.table) ≡ true
  unfolding table_of
  table_rises =
      rw v.table
      (table_ascends (length (list_of h)) 0 0 (weeks_of (list_of h)) short-list (omega arith) (weeks_rise (list_of h))
      (weeks_most (list_of h)))

  pub week_among : (k : ℕ) → week_in k (take h.weeks h.table) ≡ has_week k (weeks_of (list_of h))
  unfolding table_of
  week_among k = rw v.table (in_words (length (list_of h)) k short-list (weeks_of (list_of h)) (weeks_most (list_of h)))

  -- the table with one sheet more is that of the list with one word more
  pub table_with : (x : ℕ) → counted_in (week_of x) (take h.weeks h.table) ≡ table_of (inserted x (list_of h))
  unfolding table_of
  table_with x =
      rw v.table
      (counted_words (length (list_of h)) (week_of x) short-list (weeks_of (list_of h)) (weeks_most (list_of h))
      ∙ ap (map tally_word) (sym (inserted_weeks x (list_of h))))

  pub weeks_held : length (weeks_of (list_of h)) ≡ h.weeks
  unfolding table_of
  weeks_held =
      sym (length-map (weeks_of (list_of h)) tally_word)
      ∙ ap length (sym v.table)
      ∙ length-take-le h.weeks h.table (omega (arith, v.size, v.inside))

  module _ (x : ℕ) (room : is_full x h ≡ false) where
    split : (eqb h.count (length h.words) ≡ false)
        × ((eqb h.weeks table_length && not (has_week (week_of x) (weeks_of (list_of h)))) ≡ false)
    unfolding is_full
    split = neither (eqb h.count (length h.words)) room
      where
        neither : (a : Bool) {b : Bool} → (a || b) ≡ false → (a ≡ false) × (b ≡ false)
        neither true e = clash (cc)
        neither false e = (refl, e)

    pub room_left : h.count < length h.words
    room_left = omega (arith, v.within, eqb-false h.count (length h.words) split.0)

    weeks-then : length (table_of (inserted x (list_of h))) ≡ length (counted (week_of x) (weeks_of (list_of h)))
    unfolding table_of
    weeks-then = length-map (weeks_of (inserted x (list_of h))) tally_word ∙ ap length (inserted_weeks x (list_of h))

    pub weeks_fit : length (table_of (inserted x (list_of h))) ≤ table_length
    weeks_fit = rw weeks-then (go (has_week (week_of x) (weeks_of (list_of h))) refl)
      where
        go : (b : Bool) → has_week (week_of x) (weeks_of (list_of h)) ≡ b
            → length (counted (week_of x) (weeks_of (list_of h))) ≤ table_length
        go true e = omega (arith, counted_among 0 (week_of x) (weeks_of (list_of h)) (weeks_rise (list_of h)) e, weeks_held, v.inside)
        go false e =
            let n : (h.weeks ≡ table_length → ⊥)
            = λ f. clash (let z : (eqb h.weeks table_length && not (has_week (week_of x) (weeks_of (list_of h)))) ≡ true
            = rw (eq-eqb h.weeks table_length f, e) in let y = split.1 in cc) in
            omega (arith, counted_most (week_of x) (weeks_of (list_of h)), weeks_held, v.inside, n)

    list-fits : length (inserted x (list_of h)) ≤ length h.words
    list-fits = omega (arith, inserted_length x (list_of h), list_length, room_left)

    pub with_words : length (with x h).words ≡ length h.words
    unfolding with
    with_words = over_length (inserted x (list_of h)) h.words list-fits

    pub with_sound : is_packing x ≡ true → Sound (with x h)
    unfolding with
    with_sound p =
        let list = inserted x (list_of h) in
        let l = over_front list h.words in
        let n = over_length list h.words list-fits in
        let m = over_length (table_of list) h.table (omega (arith, weeks_fit, v.size)) in
        record {
          short = omega (arith, n, v.short);
          within = omega (arith, n, list-fits);
          size = m ∙ v.size;
          inside = weeks_fit;
          packings = rw l (inserted_every is_packing x (list_of h) p v.packings);
          ascends = rw l (inserted_ascends 0 x (list_of h) (omega arith) v.ascends);
          table = over_front (table_of list) h.table ∙ ap table_of (sym l);
        }
