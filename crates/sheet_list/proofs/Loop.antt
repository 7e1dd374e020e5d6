-- The loop over many sheets: what is left to add from here gives what adding all from the start would.
-- Assumes nothing.
use Prim.Native.Nat.{ℕ, zero, suc, ◌+◌, ◌-◌, ◌*◌, ◌/◌, ◌≤◌, ◌<◌}
use mathlib.Core.Bool.{true, false}
use mathlib.Core.List.{List, []}
use mathlib.Core.Path.{◌≡◌, refl, sym, ap, ◌∙◌}
use native.Mathlib.Omega.{arith}
use lib.Dec.{lit<}
use lib.ListN.{length, get_or, drop, length-drop}
use lib.Seq.{get_or-take}
use Rattle.std.proofs.Common.{get_or-drop}
use Rattle.std.specs.Simd.{first_chunks}
use Rattle.sheets.specs.Sheets.{words_fields}
use Rattle.sheets.specs.declared.SheetFields.{SheetFields}
use Rattle.std.specs.Prelude.{Option, Some, None, is_some}
use Rattle.laws.proofs.Cases.{clash}
use Rattle.sheet_list.specs.declared.adding.AddRefusal.{AddRefusal}
use Rattle.sheet_list.specs.declared.adding.AddRefusal.TheVariants.{BadField, Undated, NoRoom, NotHeld}
use Rattle.sheet_list.specs.Adding.{number_of, place_of, Held, held, Outcome, outcome_of, is_held, adding, adding_all, sheet_words}
use Rattle.sheet_list.specs.Adding.{sheet_at, adding_words}
use Rattle.sheet_list.specs.declared.adding.Added.{Added}
use Rattle.sheet_list.proofs.Steps.{adding_taken, all_stops, all_goes, all_ends}

-- what is held now
abbrev pub Now : Added → List ℕ → List ℕ → Held
Now a w t = held w a.count t a.weeks

-- a refusal has a number, and none has 0
some_number : (r : Option AddRefusal) → is_some r ≡ true → number_of r ≡ 0 → ⊥
unfolding number_of
some_number None e z = clash (cc)
some_number (Some (BadField p)) e z = omega (arith, z)
some_number (Some Undated) e z = omega (arith, z)
some_number (Some NoRoom) e z = omega (arith, z)
some_number (Some NotHeld) e z = omega (arith, z)

none_is : (r : Option AddRefusal) → is_some r ≡ false → r ≡ None
none_is None e = refl
none_is (Some why) e = clash (cc)

none_number : (r : Option AddRefusal) → is_some r ≡ false → number_of r ≡ 0
unfolding number_of
none_number r e = rw (none_is r e)

pub record Adding (sheets : List ℕ) (h : Held) (most : ℕ) (a : Added) (w t : List ℕ) : Type 0 where
  pub all : most ≡ length sheets / sheet_words
  pub refused : a.refused ≡ None
  pub index : a.index ≤ most
  pub holds : 0 < a.index → is_held (Now a w t) ≡ true
  pub rest : adding_all (sheet_at sheets) a.index (most - a.index) (Now a w t) ≡ adding_words sheets h

module _ (sheets : List ℕ) (h : Held) where
  pub adding_start : Adding sheets h (length sheets / sheet_words)
      (record { refused = None; index = 0; count = h.count; weeks = h.weeks }) h.words h.table
  unfolding adding_words
  adding_start =
      let e : length sheets / sheet_words - 0 ≡ length sheets / sheet_words = omega arith in
      record {
        all = refl;
        refused = refl;
        index = omega arith;
        holds = λ l. absurd (omega arith);
        rest = rw e;
      }

  module _ {most : ℕ} {a : Added} {w t : List ℕ} (v : Adding sheets h most a w t) where
    pub adding_ends : most ≤ a.index → outcome_of a w t ≡ adding_words sheets h
    unfolding number_of place_of
    adding_ends l =
        rw v.refused (sym (all_ends (sheet_at sheets) a.index most (Now a w t) l) ∙ v.rest)

    module _ (l : a.index < most) (b : Added) {x y : List ℕ} {f : SheetFields} (s : f ≡ sheet_at sheets a.index)
        (e : outcome_of b x y ≡ adding a.index f (Now a w t)) where
      one : outcome_of b x y ≡ adding a.index (sheet_at sheets a.index) (Now a w t)
      one = e ∙ ap (λ (g : SheetFields). adding a.index g (Now a w t)) s

      number_is : number_of b.refused ≡ (adding a.index (sheet_at sheets a.index) (Now a w t)).number
      number_is = ap (λ (o : Outcome). o.number) one

      held-is : Now b x y ≡ (adding a.index (sheet_at sheets a.index) (Now a w t)).held
      held-is = ap (λ (o : Outcome). o.held) one

      pub adding_stops : is_some b.refused ≡ true → outcome_of b x y ≡ adding_words sheets h
      adding_stops n =
          one ∙ sym (all_stops (sheet_at sheets) a.index most (Now a w t) l (λ z. some_number b.refused n (number_is ∙ z))) ∙ v.rest

      pub adding_goes : is_some b.refused ≡ false → Adding sheets h most b x y
      adding_goes z =
          let n = sym number_is ∙ none_number b.refused z in
          let k = adding_taken a.index (sheet_at sheets a.index) (Now a w t) n in
          let i : b.index ≡ suc a.index = ap (λ (o : Outcome). o.index) one ∙ k.index in
          record {
            all = v.all;
            refused = none_is b.refused z;
            index = omega (arith, i);
            holds = λ _. ap is_held held-is ∙ k.holds;
            rest = rw (i, held-is) (sym (all_goes (sheet_at sheets) a.index most (Now a w t) l n) ∙ v.rest);
          }

      pub index_then : is_some b.refused ≡ false → b.index ≡ suc a.index
      index_then z =
          ap (λ (o : Outcome). o.index) one
          ∙ (adding_taken a.index (sheet_at sheets a.index) (Now a w t) (sym number_is ∙ none_number b.refused z)).index

-- ---- the sheets, as words: each is a chunk of eleven

chunk_at : (i n : ℕ) (s : List ℕ) (j : ℕ) → i < n → j < sheet_words → sheet_words * n ≤ length s
    → get_or (get_or (first_chunks sheet_words n s) i []) j 0 ≡ get_or s (sheet_words * i + j) 0
chunk_at i zero s j h l m = absurd (omega arith)
chunk_at zero (suc n) s j h l m = let e : sheet_words * 0 + j ≡ j = omega arith in rw e (get_or-take sheet_words s j 0 l)
chunk_at (suc i) (suc n) s j h l m =
    let e : sheet_words * suc i + j ≡ sheet_words + (sheet_words * i + j) = omega arith in
    rw (e, ← get_or-drop sheet_words s (sheet_words * i + j) 0)
    (chunk_at i n (drop sheet_words s) j (omega arith) l (omega (arith, length-drop sheet_words s)))

pub chunk_is : (i n : ℕ) (s : List ℕ) → i < n → sheet_words * n ≤ length s
    → words_fields (get_or (first_chunks sheet_words n s) i []) ≡ sheet_at s i
unfolding sheet_at
chunk_is i n s h m =
    let g : (j : ℕ) → j < sheet_words → get_or (get_or (first_chunks sheet_words n s) i []) j 0 ≡ get_or s (sheet_words * i + j) 0
    = λ j l. chunk_at i n s j h l m in
    rw (
      g 0 (lit< tt),
      g 1 (lit< tt),
      g 2 (lit< tt),
      g 3 (lit< tt),
      g 4 (lit< tt),
      g 5 (lit< tt),
      g 6 (lit< tt),
      g 7 (lit< tt),
      g 8 (lit< tt),
      g 9 (lit< tt),
      g 10 (lit< tt),
    )
