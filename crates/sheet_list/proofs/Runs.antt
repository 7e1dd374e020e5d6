-- The table of an ascending list, one week's words after another.
-- Assumes nothing.
use Prim.Native.Nat.{ℕ, zero, suc, ◌+◌, ◌-◌, ◌≤◌, ◌<◌}
use mathlib.Core.Bool.{Bool, true, false, cond, and-eq-true_iff}
use mathlib.Core.List.{List, [], ◌∷◌, map}
use mathlib.Core.Path.{◌≡◌, refl, sym, ap, ◌∙◌}
use native.Mathlib.Decide.{ℕ_discrete}
use native.Mathlib.Numerals.{add-one}
use native.Mathlib.Omega.{arith}
use borrow.Author.Tests.{eq-eqb, ne_eqb, eqb-true, eqb-false, lt-ltb, le-ltb, ltb-false, leb-true, leb-false}
use lib.Dec.{eqb, leb, ltb}
use lib.ListN.{length, get_or, drop, length-drop, drop_of_length-le}
use lib.Seq.{drop-cons, drop-drop}
use Rattle.std.proofs.Common.{Option, Some, None, get_or-drop}
use Rattle.std.proofs.lemmas.List.Sums.{fails_before_first, passes_at_first, prefix_len-le-length}
use Rattle.std.specs.List.{position, position_or_len}
use Rattle.laws.proofs.Cases.{clash}
use Rattle.laws.specs.Lists.{every}
use Rattle.laws.proofs.Lists.{each}
use Rattle.sheets.specs.Sheets.{is_packing, week_of, next_week}
use Rattle.sheets.proofs.Order.{packing_weeks, by_next_week}
use Rattle.sheet_list.specs.Adding.{same}
use Rattle.sheet_list.specs.Ascending.{ascending_from}
use Rattle.sheet_list.specs.Private.{week_run, Listed}
use Rattle.sheet_list.specs.Weeks.{Tally, tally, counted, weeks_of, tally_word, table_of}
use Rattle.sheet_list.proofs.Counting.{counted_less, counted_same}
use Rattle.sheet_list.proofs.Ranks.{first_rest, rises}

-- the weeks of words do not fall, from a week on
unfoldable pub Weekly : ℕ → List ℕ → Type 0
Weekly k [] = Unit
Weekly k (x ∷ s) = (k ≤ week_of x) × Weekly (week_of x) s

-- so it is with packings that ascend from one of them on
weekly : (x : ℕ) (s : List ℕ) → is_packing x ≡ true → every is_packing s ≡ true → ascending_from x s ≡ true → Weekly (week_of x) s
unfolding Weekly every
weekly x [] p e a = tt
weekly x (y ∷ s) p e a =
    let b = first_rest x y s a in
    let f = (and-eq-true_iff (is_packing y) (every is_packing s)).0 e in
    (packing_weeks x y p f.0 b.0, weekly y s f.0 f.1 b.1)

pub list_weekly : (s : List ℕ) → every is_packing s ≡ true → ascending_from 0 s ≡ true → Weekly 0 s
unfolding Weekly every
list_weekly [] e a = tt
list_weekly (x ∷ s) e a =
    let f = (and-eq-true_iff (is_packing x) (every is_packing s)).0 e in
    (omega arith, weekly x s f.0 f.1 (first_rest 0 x s a).1)

pub weekly_drop : (k : ℕ) (s : List ℕ) (i : ℕ) → Weekly k s → Weekly 0 (drop i s)
unfolding Weekly
weekly_drop k [] zero w = tt
weekly_drop k [] (suc i) w = tt
weekly_drop k (x ∷ s) zero w = (omega arith, w.1)
weekly_drop k (x ∷ s) (suc i) w = weekly_drop (week_of x) s i w.1

-- ---- one week's words at the front

run_more : (k x : ℕ) (s : List ℕ) → week_of x ≡ k → week_run k (x ∷ s) ≡ suc (week_run k s)
unfolding week_run
run_more k x s e = rw (eq-eqb (week_of x) k e)

run_none : (k x : ℕ) (s : List ℕ) → (week_of x ≡ k → ⊥) → week_run k (x ∷ s) ≡ 0
unfolding week_run
run_none k x s e = rw (ne_eqb (week_of x) k e)

counted_run : (k : ℕ) (s : List ℕ) → Weekly k s → counted k (weeks_of s) ≡ tally k (suc (week_run k s)) ∷ weeks_of (drop (week_run k s) s)
unfolding Weekly weeks_of
counted_run k [] w = unfold week_run counted in refl
counted_run k (x ∷ s) w = go (λ l v. counted_run l s v) (ℕ_discrete (week_of x) k)
  where
    go : ((l : ℕ) → Weekly l s → counted l (weeks_of s) ≡ tally l (suc (week_run l s)) ∷ weeks_of (drop (week_run l s) s))
        → Dec (week_of x ≡ k)
        → counted k (weeks_of (x ∷ s)) ≡ tally k (suc (week_run k (x ∷ s))) ∷ weeks_of (drop (week_run k (x ∷ s)) (x ∷ s))
    go later (yes e) =
        let v : Weekly k s = rw e at w.1 in
        rw (run_more k x s e, e) (ap (counted k) (later k v) ∙ counted_same k (tally k (suc (week_run k s))) _ refl)
    go later (no e) =
        rw (run_none k x s e)
        (ap (counted k) (later (week_of x) w.1)
        ∙ counted_less k (tally (week_of x) (suc (week_run (week_of x) s))) _ (omega (arith, w.0, e))
        ∙ ap (λ (r : List Tally). tally k 1 ∷ r) (sym (later (week_of x) w.1)))

run_first : (x : ℕ) (s : List ℕ) → Weekly 0 (x ∷ s)
    → table_of (x ∷ s) ≡ tally_word (tally (week_of x) (week_run (week_of x) (x ∷ s))) ∷ table_of
    (drop (week_run (week_of x) (x ∷ s)) (x ∷ s))
unfolding Weekly table_of weeks_of
run_first x s w =
    rw (run_more (week_of x) x s refl) (ap (map tally_word) (counted_run (week_of x) s w.1))

-- ---- the walk through list and table: what is left to compare decides

-- the list's end: nothing may be left of the table
left : (r : List ℕ) → same r [] ≡ eqb (length r) 0
unfolding same
left [] = refl
left (x ∷ r) = sym (ne_eqb (suc (length r)) 0 (λ e. omega (arith, e)))

abbrev pub Walk : List ℕ → List ℕ → ℕ → ℕ → Type 0
Walk s t i j = same (drop j t) (table_of (drop i s)) ≡ same t (table_of s)

module _ (s t : List ℕ) (w : Weekly 0 s) where
  pub walk_end : (i j : ℕ) → length s ≤ i → j ≤ length t → Walk s t i j → eqb j (length t) ≡ same t (table_of s)
  unfolding table_of weeks_of
  walk_end i j h l e =
      let n : length (drop j t) ≡ length t - j = length-drop j t in
      let g : same (drop j t) [] ≡ same t (table_of s) = rw (drop_of_length-le s {i = i} h) at e in
      elim (ℕ_discrete j (length t)) [
        | yes f ↦ rw (eq-eqb j (length t) f) (sym (eq-eqb (length (drop j t)) 0 (omega (arith, n, f))) ∙ sym (left (drop j t)) ∙ g)
        | no f ↦ rw (ne_eqb j (length t) f) (sym (ne_eqb (length (drop j t)) 0 (λ z. omega (arith, n, f, z))) ∙ sym (left (drop j t)) ∙ g)
      ]

  module _ (i j : ℕ) (h : i < length s) where
    here : drop i s ≡ get_or s i 0 ∷ drop (suc i) s
    here = drop-cons s i 0 h

    split : table_of (drop i s) ≡ tally_word (tally (week_of (get_or s i 0)) (week_run (week_of (get_or s i 0)) (drop i s)))
        ∷ table_of (drop (i + week_run (week_of (get_or s i 0)) (drop i s)) s)
    split =
        rw (← drop-drop (week_run (week_of (get_or s i 0)) (drop i s)) i s)
        (rw here (run_first (get_or s i 0) (drop (suc i) s) (rw here at (weekly_drop 0 s i w))))

    -- a run goes on, within the list
    pub run_some : 0 < week_run (week_of (get_or s i 0)) (drop i s)
    run_some = rw (here, run_more (week_of (get_or s i 0)) (get_or s i 0) (drop (suc i) s) refl) (omega arith)

    -- the table ends first
    pub walk_short : length t ≤ j → Walk s t i j → false ≡ same t (table_of s)
    unfolding same
    walk_short l e = rw (drop_of_length-le t {i = j} l, split) at e

    module _ (l : j < length t) where
      pub walk_differs : (get_or t j 0 ≡ tally_word (tally (week_of (get_or s i 0)) (week_run (week_of (get_or s i 0)) (drop i s))) → ⊥)
          → Walk s t i j
          → false ≡ same t (table_of s)
      unfolding same
      walk_differs n e = rw (drop-cons t j 0 l, split, ne_eqb _ _ n) at e

      pub walk_on : get_or t j 0 ≡ tally_word (tally (week_of (get_or s i 0)) (week_run (week_of (get_or s i 0)) (drop i s))) → Walk s t i j
          → Walk s t (i + week_run (week_of (get_or s i 0)) (drop i s)) (j + 1)
      unfolding same
      walk_on n e = rw add-one (rw (drop-cons t j 0 l, split, eq-eqb _ _ n) at e)

run_most : (k : ℕ) (s : List ℕ) → week_run k s ≤ length s
unfolding week_run
run_most k [] = omega arith
run_most k (x ∷ s) =
    elim (ℕ_discrete (week_of x) k) [
      | yes e ↦ rw (eq-eqb (week_of x) k e) (omega (arith, run_most k s))
      | no e ↦ rw (ne_eqb (week_of x) k e) (omega arith)
    ]

-- the end of a run lies in the list
pub run_within : (k i : ℕ) (s : List ℕ) → i ≤ length s → i + week_run k (drop i s) ≤ length s
run_within k i s h = omega (arith, run_most k (drop i s), length-drop i s)

-- ---- the end of a run: words before it are of the week, and the next one is not

run_is : (k : ℕ) (s : List ℕ) (n : ℕ) → n ≤ length s → ((i : ℕ) → i < n → week_of (get_or s i 0) ≡ k)
    → (n < length s → week_of (get_or s n 0) ≡ k → ⊥)
    → n ≡ week_run k s
run_is k [] zero l f g = unfold week_run in refl
run_is k [] (suc n) l f g = absurd (omega arith)
run_is k (x ∷ s) zero l f g = sym (run_none k x s (g (omega arith)))
run_is k (x ∷ s) (suc n) l f g =
    rw (run_more k x s (f 0 (omega arith)))
    (ap suc (run_is k s n (omega arith) (λ i h. f (suc i) (omega arith)) (λ h. g (omega arith))))

-- ---- by the first word of a later week

module _ (s : List ℕ) (v : Listed s) (from i : ℕ) (h : from ≤ i) (l : i < length s) where
  packs : (j : ℕ) → j < length s → is_packing (get_or s j 0) ≡ true
  packs j m = each is_packing 0 s v.packings j (λ n. absurd (omega arith))

  week-by : ltb (get_or s i 0) (next_week (get_or s from 0)) ≡ eqb (week_of (get_or s i 0)) (week_of (get_or s from 0))
  week-by =
      by_next_week (get_or s from 0) (get_or s i 0) (packs from (omega arith)) (packs i l) (rises 0 s v.ascends from i 0 h l)

  pub later_week : next_week (get_or s from 0) ≤ get_or s i 0 → week_of (get_or s i 0) ≡ week_of (get_or s from 0) → ⊥
  later_week n = eqb-false _ _ (sym week-by ∙ le-ltb (get_or s i 0) (next_week (get_or s from 0)) n)

  pub that_week : get_or s i 0 < next_week (get_or s from 0) → week_of (get_or s i 0) ≡ week_of (get_or s from 0)
  that_week n = eqb-true _ _ (sym week-by ∙ lt-ltb (get_or s i 0) (next_week (get_or s from 0)) n)

-- so a run ends with the first word of a later week, or with the list
module _ (s : List ℕ) (v : Listed s) (from : ℕ) (h : from < length s) where
  later : ℕ → Bool
  later = leb (next_week (get_or s from 0))

  place : ℕ
  place = position_or_len later (drop from s)

  place_most : place ≤ length (drop from s)
  unfolding place
  place_most = prefix_len-le-length _ (drop from s)

  at : (i : ℕ) → get_or (drop from s) i 0 ≡ get_or s (from + i) 0
  at i = get_or-drop from s i 0

  place_is : place ≡ week_run (week_of (get_or s from 0)) (drop from s)
  unfolding place later
  place_is =
      let d = length-drop from s in
      let m = place_most in
      run_is (week_of (get_or s from 0)) (drop from s) place m
      (λ i l.
      rw (at i)
      (that_week s v from (from + i) (omega arith) (omega (arith, d))
      (leb-false _ _ (rw (at i) at (fails_before_first later (drop from s) i 0 l)))))
      (λ l.
      rw (at place)
      (later_week s v from (from + place) (omega arith) (omega (arith, d))
      (leb-true _ _ (rw (at place) at (passes_at_first later (drop from s) 0 l)))))

  module _ {o : Option ℕ} (e : o ≡ position (λ x. leb (next_week (get_or s from 0)) x) (drop from s)) where
    pub run_found : (n : ℕ) → o ≡ Some n → n ≡ week_run (week_of (get_or s from 0)) (drop from s)
    unfolding place later
    run_found n f = go (ltb place (length (drop from s))) (sym e ∙ f) ∙ place_is
      where
        go : (b : Bool) → cond b (Some place) None ≡ Some n → n ≡ place
        go true g = cc
        go false g = clash cc

    pub run_whole : o ≡ None → length s ≡ from + week_run (week_of (get_or s from 0)) (drop from s)
    unfolding place later
    run_whole f = omega (arith, go (ltb place (length (drop from s))) refl (sym e ∙ f), place_is, place_most, length-drop from s)
      where
        go : (b : Bool) → ltb place (length (drop from s)) ≡ b → cond b (Some place) None ≡ None → length (drop from s) ≤ place
        go true g n = clash cc
        go false g n = ltb-false _ _ g
