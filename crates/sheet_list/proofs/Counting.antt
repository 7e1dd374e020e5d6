-- One sheet more of a week: in which order sheets are counted does not matter, and what a table then has.
-- Assumes nothing.
use Prim.Native.Nat.{ℕ, suc, ◌≤◌, ◌<◌}
use mathlib.Core.Bool.{true, false, ◌||◌}
use mathlib.Core.List.{List, [], ◌∷◌}
use mathlib.Core.Logic.{⊎_elim}
use mathlib.Core.Path.{◌≡◌, refl, sym, ap, ◌∙◌}
use native.Mathlib.Decide.{dec_le}
use native.Mathlib.Nat.{eq-or-lt_of_le}
use native.Mathlib.Omega.{arith}
use borrow.Author.Tests.{lt-ltb, le-ltb, eq-eqb, ne_eqb}
use lib.Dec.{eqb, leb}
use lib.ListN.{length}
use Rattle.laws.proofs.Cases.{picked, clash}
use Rattle.sheets.specs.Sheets.{week_of}
use Rattle.sheet_list.specs.Ascending.{inserted}
use Rattle.sheet_list.specs.Rules.{Rising}
use Rattle.sheet_list.specs.Weeks.{Tally, tally, counted, weeks_of, has_week}

-- a number is lower than another, equal to it, or higher
pub data Cases (a b : ℕ) : Type 0 where
  less : a < b → Cases a b
  same : a ≡ b → Cases a b
  more : b < a → Cases a b

pub cases : (a b : ℕ) → Cases a b
cases a b =
    elim (dec_le a b) [
      | yes h ↦ ⊎_elim (λ (e : a ≡ b). same e) (λ (l : a < b). less l) (eq-or-lt_of_le h)
      | no h ↦ more (omega (arith, h))
    ]

-- ---- each case of counting

module _ (k : ℕ) (t : Tally) (ts : List Tally) where
  pub counted_less : k < t.week → counted k (t ∷ ts) ≡ tally k 1 ∷ t ∷ ts
  unfolding counted
  counted_less h = rw (lt-ltb k t.week h)

  pub counted_same : k ≡ t.week → counted k (t ∷ ts) ≡ tally k (suc t.sheets) ∷ ts
  unfolding counted
  counted_same e = rw (le-ltb k t.week (omega (arith, e)), eq-eqb k t.week e)

  pub counted_more : t.week < k → counted k (t ∷ ts) ≡ t ∷ counted k ts
  unfolding counted
  counted_more h = rw (le-ltb k t.week (omega arith), ne_eqb k t.week (λ e. omega (arith, e)))

-- ---- in any order

module _ (a b : ℕ) (h : a < b) where
  front : (t : Tally) (ts : List Tally) → a < t.week → counted a (counted b (t ∷ ts)) ≡ tally a 1 ∷ counted b (t ∷ ts)
  front t ts l = go (cases b t.week)
    where
      go : Cases b t.week → counted a (counted b (t ∷ ts)) ≡ tally a 1 ∷ counted b (t ∷ ts)
      go (less g) = rw (counted_less b t ts g) (counted_less a (tally b 1) (t ∷ ts) h)
      go (same g) = rw (counted_same b t ts g) (counted_less a (tally b (suc t.sheets)) ts h)
      go (more g) = rw (counted_more b t ts g) (counted_less a t (counted b ts) l)

  either_way : (ts : List Tally) → counted a (counted b ts) ≡ counted b (counted a ts)
  either_way [] = unfold counted in counted_less a (tally b 1) [] h ∙ sym (counted_more b (tally a 1) [] h)
  either_way (t ∷ ts) = go (either_way ts) (cases a t.week)
    where
      go : counted a (counted b ts) ≡ counted b (counted a ts) → Cases a t.week
          → counted a (counted b (t ∷ ts)) ≡ counted b (counted a (t ∷ ts))
      go again (less g) = front t ts g ∙ sym (ap (counted b) (counted_less a t ts g) ∙ counted_more b (tally a 1) (t ∷ ts) h)
      go again (same g) =
          ap (counted a) (counted_more b t ts (omega (arith, g)))
          ∙ counted_same a t (counted b ts) g
          ∙ sym (ap (counted b) (counted_same a t ts g) ∙ counted_more b (tally a (suc t.sheets)) ts h)
      go again (more g) =
          ap (counted a) (counted_more b t ts (omega arith))
          ∙ counted_more a t (counted b ts) g
          ∙ ap (λ (r : List Tally). t ∷ r) again
          ∙ sym (ap (counted b) (counted_more a t ts g) ∙ counted_more b t (counted a ts) (omega arith))

pub any_order : (a b : ℕ) (ts : List Tally) → counted a (counted b ts) ≡ counted b (counted a ts)
any_order a b ts = go (cases a b)
  where
    go : Cases a b → counted a (counted b ts) ≡ counted b (counted a ts)
    go (less h) = either_way a b h ts
    go (same e) = rw e
    go (more h) = sym (either_way b a h ts)

-- so a sheet is counted wherever its word is put
pub inserted_weeks : (x : ℕ) (s : List ℕ) → weeks_of (inserted x s) ≡ counted (week_of x) (weeks_of s)
unfolding weeks_of inserted
inserted_weeks x [] = refl
inserted_weeks x (y ∷ s) =
    picked (λ (r : List ℕ). weeks_of r ≡ counted (week_of x) (weeks_of (y ∷ s))) (leb x y) refl
    (ap (counted (week_of y)) (inserted_weeks x s) ∙ any_order (week_of y) (week_of x) (weeks_of s))

-- ---- weeks stand in order, each once

pub counted_rises : (low k : ℕ) (ts : List Tally) → low ≤ k → Rising low ts → Rising low (counted k ts)
unfolding Rising
counted_rises low k [] h r = unfold counted in (h, omega arith, tt)
counted_rises low k (t ∷ ts) h r = go (λ g. counted_rises (suc t.week) k ts g r.2) (cases k t.week)
  where
    go : (t.week < k → Rising (suc t.week) (counted k ts)) → Cases k t.week → Rising low (counted k (t ∷ ts))
    go later (less g) = rw (counted_less k t ts g) (h, omega arith, (g, r.1, r.2))
    go later (same g) = rw (counted_same k t ts g, g) (r.0, omega arith, r.2)
    go later (more g) = rw (counted_more k t ts g) (r.0, r.1, later g)

pub weeks_rise : (s : List ℕ) → Rising 0 (weeks_of s)
unfolding weeks_of Rising
weeks_rise [] = tt
weeks_rise (x ∷ s) = counted_rises 0 (week_of x) (weeks_of s) (omega arith) (weeks_rise s)

-- how many they are, with one sheet more of a week that is among them, or of any
none_lower : (low k : ℕ) (ts : List Tally) → k < low → Rising low ts → has_week k ts ≡ false
unfolding Rising has_week
none_lower low k [] h r = refl
none_lower low k (t ∷ ts) h r =
    rw (ne_eqb k t.week (λ e. omega (arith, e, r.0))) (none_lower (suc t.week) k ts (omega (arith, r.0)) r.2)

pub counted_among : (low k : ℕ) (ts : List Tally) → Rising low ts → has_week k ts ≡ true → length (counted k ts) ≡ length ts
unfolding Rising has_week
counted_among low k [] r e = clash (cc)
counted_among low k (t ∷ ts) r e = go (counted_among (suc t.week) k ts r.2) (cases k t.week)
  where
    go : (has_week k ts ≡ true → length (counted k ts) ≡ length ts) → Cases k t.week → length (counted k (t ∷ ts)) ≡ suc (length ts)
    go later (less g) =
        let n = none_lower (suc t.week) k ts (omega arith) r.2 in
        let z : (eqb k t.week || has_week k ts) ≡ false = rw (ne_eqb k t.week (λ e. omega (arith, e)), n) in
        clash (cc)
    go later (same g) = rw (counted_same k t ts g)
    go later (more g) =
        let z : (eqb k t.week || has_week k ts) ≡ has_week k ts = rw (ne_eqb k t.week (λ e. omega (arith, e))) in
        rw (counted_more k t ts g) (ap suc (later (sym z ∙ e)))

pub counted_most : (k : ℕ) (ts : List Tally) → length (counted k ts) ≤ suc (length ts)
counted_most k [] = unfold counted in omega arith
counted_most k (t ∷ ts) = go (counted_most k ts) (cases k t.week)
  where
    go : length (counted k ts) ≤ suc (length ts) → Cases k t.week → length (counted k (t ∷ ts)) ≤ suc (suc (length ts))
    go later (less g) = rw (counted_less k t ts g) (omega arith)
    go later (same g) = rw (counted_same k t ts g) (omega arith)
    go later (more g) = rw (counted_more k t ts g) (omega arith)

-- ---- how many sheets a week can have: no more than there are words

unfoldable pub Most : ℕ → List Tally → Type 0
Most n [] = Unit
Most n (t ∷ ts) = (t.sheets ≤ n) × Most n ts

pub most_more : (n m : ℕ) (ts : List Tally) → n ≤ m → Most n ts → Most m ts
unfolding Most
most_more n m [] h p = tt
most_more n m (t ∷ ts) h p = (omega (arith, p.0), most_more n m ts h p.1)

pub counted_sheets : (n k : ℕ) (ts : List Tally) → Most n ts → Most (suc n) (counted k ts)
unfolding Most
counted_sheets n k [] p = unfold counted in (omega arith, tt)
counted_sheets n k (t ∷ ts) p = go (counted_sheets n k ts p.1) (cases k t.week)
  where
    go : Most (suc n) (counted k ts) → Cases k t.week → Most (suc n) (counted k (t ∷ ts))
    go later (less g) = rw (counted_less k t ts g) (omega arith, (omega (arith, p.0), most_more n (suc n) ts (omega arith) p.1))
    go later (same g) = rw (counted_same k t ts g) (omega (arith, p.0), most_more n (suc n) ts (omega arith) p.1)
    go later (more g) = rw (counted_more k t ts g) (omega (arith, p.0), later)

pub weeks_most : (s : List ℕ) → Most (length s) (weeks_of s)
unfolding Most weeks_of
weeks_most [] = tt
weeks_most (x ∷ s) = counted_sheets (length s) (week_of x) (weeks_of s) (weeks_most s)
