-- Reading elements, and what they say: the reader goes through exactly if every element finds what it wants and no kind is said again,
-- differently; and then it has kept exactly what was said, and the forms of the last names.
-- Assumes nothing.
use Prim.Native.Nat.{ℕ, zero, suc, ◌≤◌, ◌<◌}
use mathlib.Core.Bool.{Bool, true, false, cond, ◌||◌, false≢true}
use mathlib.Core.List.{List, [], ◌∷◌}
use mathlib.Core.Logic.{◌⊎◌, ◌↔◌, inl, inr, ⊎_elim}
use mathlib.Core.Path.{◌≡◌, refl, sym, ap, ap₂, ◌∙◌}
use native.Mathlib.Decide.{ℕ_discrete}
use native.Mathlib.Omega.{arith}
use borrow.Author.Tests.{eq-eqb, ne_eqb, eqb-true}
use lib.Dec.{eqb}
use lib.ListN.{length, length-set}
use lib.Seq.{get_or-set_same, get_or-set_other}
use Rattle.kinds.specs.Kinds.{kinds, month, weekday}
use Rattle.agreement.specs.Agreement.{said}
use Rattle.agreement.specs.declared.Facts.{Facts}
use Rattle.matching.specs.Elements.{read_element}
use Rattle.matching.specs.Steps.{goes, stays, noted, no_forms, later, latest, met, tell, taken, step_on, is_read, read_all}
use Rattle.matching.specs.declared.Forms.{Forms}
use Rattle.matching.specs.declared.State.{State}
use Rattle.matching.specs.declared.Stepped.{Stepped}
use Rattle.matching.proofs.Sound.{Finds, Sound, sound}
use Rattle.demands.specs.Facts.{Fact, saying, facts_from, Says, is_name, last_form, going, all_read, ending, end_from}
use Rattle.std.specs.Prelude.{Err, None, Ok, Option, Result, Some}
use Rattle.matching.specs.declared.Refused.{Refused}
use Rattle.matching.specs.declared.elements.Item.TheVariants.{Fact as Reads, Skip}
use Rattle.matching.specs.declared.elements.Item.{Item}
use Rattle.names.specs.declared.names.NameForm.TheVariants.{Full, Middle, Short}
use Rattle.names.specs.declared.names.NameForm.{NameForm}

-- a number is kept for a kind
abbrev pub Kept : Facts → ℕ → ℕ → Type 0
Kept f k n = said f k ≡ suc n

suc_same : (m n : ℕ) → suc m ≡ suc n → m ≡ n
suc_same m n e = omega arith

-- one fact more, of a kind that nothing else was said of
module _ (f : Facts) (k n : ℕ) (h : k < length f.said) (free : (said f k ≡ 0) ⊎ (said f k ≡ suc n)) where
  noted-same : said (noted f k n) k ≡ suc n
  unfolding noted
  noted-same = get_or-set_same f.said k (suc n) 0 h

  noted_other : (j : ℕ) → (k ≡ j → ⊥) → said (noted f k n) j ≡ said f j
  unfolding noted
  noted_other j d = get_or-set_other f.said k j (suc n) 0 (λ e. d (sym e))

  kept-noted : (j m : ℕ) → Kept (noted f k n) j m → Kept f j m ⊎ ((k ≡ j) × (n ≡ m))
  kept-noted j m e = go (ℕ_discrete k j)
    where
      go : Dec (k ≡ j) → Kept f j m ⊎ ((k ≡ j) × (n ≡ m))
      go (yes d) = inr (d, suc_same n m (sym noted-same ∙ rw (← d) at e))
      go (no d) = inl (sym (noted_other j d) ∙ e)

  noted-keeps : (j m : ℕ) → Kept f j m → Kept (noted f k n) j m
  noted-keeps j m e = go (ℕ_discrete k j)
    where
      go : Dec (k ≡ j) → Kept (noted f k n) j m
      go (yes d) =
          let e' : said f k ≡ suc m = rw d e in
          let same : n ≡ m = ⊎_elim (λ z. absurd (omega arith)) (λ z. omega arith) free in
          rw (← d, ← same) noted-same
      go (no d) = noted_other j d ∙ e

-- ---- the forms of the last names, after those before

abbrev pub last_after : Forms → List Fact → Forms
last_after fs xs =
    record { weekday = later fs.weekday (last_form weekday xs); month = later fs.month (last_form month xs) }

-- one fact more
module _ (k : ℕ) (a : Option NameForm) (x : Fact) (xs : List Fact) where
  last-later : later a (last_form k (x ∷ xs)) ≡ later (cond (eqb x.kind k) (later a x.form) a) (last_form k xs)
  unfolding last_form is_name later
  last-later = go (last_form k xs) (eqb x.kind k)
    where
      go : (f : Option NameForm) (b : Bool)
          → later a (cond (is_name f) f (cond b x.form None)) ≡ later (cond b (later a x.form) a) f
      go None true = refl
      go None false = refl
      go (Some Full) b = refl
      go (Some Middle) b = refl
      go (Some Short) b = refl

last_met : (fs : Forms) (x : Fact) (xs : List Fact) → last_after fs (x ∷ xs) ≡ last_after (met fs x.kind x.form) xs
unfolding met latest
last_met fs x xs =
    ap₂ (λ (a b : Option NameForm). record { weekday = a; month = b })
    (last-later weekday fs.weekday x xs)
    (last-later month fs.month x xs)

-- from the start
pub last_first : (xs : List Fact) → last_after no_forms xs ≡ record { weekday = last_form weekday xs; month = last_form month xs }
unfolding no_forms later
last_first xs =
    ap₂ (λ (a b : Option NameForm). record { weekday = a; month = b }) (first (last_form weekday xs)) (first (last_form month xs))
  where
    first : (f : Option NameForm) → later None f ≡ f
    first None = refl
    first (Some Full) = refl
    first (Some Middle) = refl
    first (Some Short) = refl

-- ---- one element after the other

-- where an item leads, with the elements that are left
onward : List ℕ → List ℕ → State → Forms → Result Item Refused → Stepped
onward es s t fs i = let r = taken t fs i in cond (is_read r.outcome) (read_all es s r.state r.forms) r

abbrev at : Facts → ℕ → State
at f p = record { facts = f; at = p }

abbrev Whole : Stepped → Type 0
Whole r = is_read r.outcome ≡ true

-- what is kept is what was kept before, or what the facts say
abbrev KeepsAll : Facts → List Fact → Facts → Type 0
KeepsAll f xs g = (k n : ℕ) → Kept g k n ↔ (Kept f k n ⊎ Says xs k n)

-- each kind has one number at the most, among what is kept and what the facts say
abbrev OneEach : Facts → List Fact → Type 0
OneEach f xs = (k m n : ℕ) → Kept f k m ⊎ Says xs k m → Kept f k n ⊎ Says xs k n → m ≡ n

-- a reading by elements that goes through, and by an item and then elements
pub record Went (es s : List ℕ) (t : State) (fs : Forms) : Type 0 where
  pub reads : all_read es s t.at ≡ true
  pub keeps : KeepsAll t.facts (facts_from es s t.at) (read_all es s t fs).state.facts
  pub ends : (read_all es s t fs).state.at ≡ end_from es s t.at
  pub forms : (read_all es s t fs).forms ≡ last_after fs (facts_from es s t.at)

record WentBy (es s : List ℕ) (t : State) (fs : Forms) (i : Result Item Refused) : Type 0 where
  reads : going (λ next. all_read es s next) i ≡ true
  keeps : KeepsAll t.facts (saying (λ next. facts_from es s next) i) (onward es s t fs i).state.facts
  ends : (onward es s t fs i).state.at ≡ ending (λ next. end_from es s next) i
  forms : (onward es s t fs i).forms ≡ last_after fs (saying (λ next. facts_from es s next) i)

free_of : (x n : ℕ) → (eqb x 0 || eqb x (suc n)) ≡ true → (x ≡ 0) ⊎ (x ≡ suc n)
free_of x n e = go (eqb x 0) refl e
  where
    go : (b : Bool) → eqb x 0 ≡ b → (b || eqb x (suc n)) ≡ true → (x ≡ 0) ⊎ (x ≡ suc n)
    go true f g = inl (eqb-true x 0 f)
    go false f g = inr (eqb-true x (suc n) g)

module _ (es s : List ℕ) (t : State) (fs : Forms) (l : length t.facts.said ≡ kinds)
    (rest : (f : Facts) (p : ℕ) (gs : Forms) → length f.said ≡ kinds → p ≤ length s → Whole (read_all es s (at f p) gs)
    → Went es s (at f p) gs) where
  -- a fact, by whether it is free to be kept
  kept_by : (k n : ℕ) (x : Option NameForm) (from next : ℕ) → k < kinds → next ≤ length s
      → (b : Bool) → (eqb (said t.facts k) 0 || eqb (said t.facts k) (suc n)) ≡ b
      → Whole (onward es s t fs (Ok (Reads k n x from next))) → WentBy es s t fs (Ok (Reads k n x from next))
  unfolding onward taken tell goes stays is_read going saying ending Says
  kept_by k n x from next h q true e w =
      let f = t.facts in
      let free = free_of (said f k) n e in
      let inside : k < length f.said = omega arith in
      let long : length (noted f k n).said ≡ kinds = unfold noted in length-set f.said k (suc n) ∙ l in
      let r = rest (noted f k n) next (met fs k x) long q (rw e at w) in
      record {
        reads = r.reads;
        keeps = λ j m. rw e (
          λ a.
              ⊎_elim
              (λ y. ⊎_elim (λ z. inl z) (λ z. inr (inl z)) (kept-noted f k n inside free j m y))
              (λ y. inr (inr y))
              ((r.keeps j m).0 a),
          λ a. (r.keeps j m).1
              (⊎_elim
              (λ y. inl (noted-keeps f k n inside free j m y))
              (λ y. ⊎_elim (λ z. inl (rw (← z.0, ← z.1) (noted-same f k n inside free))) (λ z. inr z) y)
              a),
        );
        ends = rw e r.ends;
        forms = rw e (r.forms ∙ sym (last_met fs _ _));
      }
  kept_by k n x from next h q false e w = absurd (false≢true (rw e at w))

  went-by : (i : Result Item Refused) → Sound s i → Whole (onward es s t fs i) → WentBy es s t fs i
  unfolding onward taken goes stays is_read going saying ending Finds
  went-by (Ok (Skip next)) h w =
      let r = rest t.facts next fs l h w in
      record { reads = r.reads; keeps = r.keeps; ends = r.ends; forms = r.forms }
  went-by (Ok (Reads k n x from next)) h w = kept_by k n x from next h.0.most h.2 _ refl w
  went-by (Err why) h w = absurd (false≢true w)

-- the other way: elements that all find what they want, with one number for each kind, are read through
module _ (es s : List ℕ) (t : State) (fs : Forms) (l : length t.facts.said ≡ kinds)
    (rest : (f : Facts) (p : ℕ) (gs : Forms) → length f.said ≡ kinds → p ≤ length s → all_read es s p ≡ true
    → OneEach f (facts_from es s p) → Whole (read_all es s (at f p) gs)) where
  goes_by : (i : Result Item Refused) → Sound s i → going (λ next. all_read es s next) i ≡ true
      → OneEach t.facts (saying (λ next. facts_from es s next) i) → Whole (onward es s t fs i)
  unfolding onward taken tell goes stays is_read going saying Says Finds
  goes_by (Ok (Skip next)) h r c = rest t.facts next fs l h r c
  goes_by (Ok (Reads k n x from next)) h r c =
      let f = t.facts in
      let inside : k < length f.said = omega (arith, h.0.most) in
      let long : length (noted f k n).said ≡ kinds = unfold noted in length-set f.said k (suc n) ∙ l in
      let free : (said f k ≡ 0) ⊎ (said f k ≡ suc n) = one (said f k) refl in
      let on : (j m : ℕ) → Kept (noted f k n) j m ⊎ Says (facts_from es s next) j m
      → Kept f j m ⊎ (((k ≡ j) × (n ≡ m)) ⊎ Says (facts_from es s next) j m) = λ j m a.
      ⊎_elim
      (λ y. ⊎_elim (λ z. inl z) (λ z. inr (inl z)) (kept-noted f k n inside free j m y))
      (λ y. inr (inr y))
      a in
      rw (is_free (said f k) n free) (rest (noted f k n) next (met fs k x) long h.2 r
      (λ j a b y z. c j a b (on j a y) (on j b z)))
    where
      one : (x : ℕ) → said t.facts k ≡ x → (x ≡ 0) ⊎ (x ≡ suc n)
      one zero e = inl refl
      one (suc m) e = inr (ap suc (c k m n (inl e) (inr (inl (refl, refl)))))

      is_free : (x m : ℕ) → (x ≡ 0) ⊎ (x ≡ suc m) → (eqb x 0 || eqb x (suc m)) ≡ true
      is_free x m (inl e) = rw (eq-eqb x 0 e)
      is_free x m (inr e) =
          let d : (x ≡ 0) → ⊥ = λ z. omega arith in
          rw (ne_eqb x 0 d) (eq-eqb x (suc m) e)
  goes_by (Err why) h r c = absurd (false≢true r)

pub went : (es s : List ℕ) (t : State) (fs : Forms) → length t.facts.said ≡ kinds → t.at ≤ length s
    → Whole (read_all es s t fs) → Went es s t fs
unfolding read_all step_on onward all_read facts_from end_from stays Says last_form later
went [] s t fs l h w =
    record {
      reads = refl;
      keeps = λ k n. (λ x. inl x, λ x. ⊎_elim (λ y. y) (λ y. absurd y) x);
      ends = refl;
      forms = refl;
    }
went (e ∷ es) s t fs l h w =
    let r = went-by es s t fs l (λ f p. went es s (at f p)) (read_element e s t.at) (sound s t.at h e) w in
    record { reads = r.reads; keeps = r.keeps; ends = r.ends; forms = r.forms }

pub goes_through : (es s : List ℕ) (t : State) (fs : Forms) → length t.facts.said ≡ kinds → t.at ≤ length s
    → all_read es s t.at ≡ true → OneEach t.facts (facts_from es s t.at) → Whole (read_all es s t fs)
unfolding read_all step_on onward all_read facts_from stays is_read
goes_through [] s t fs l h r c = refl
goes_through (e ∷ es) s t fs l h r c =
    goes_by es s t fs l (λ f p. goes_through es s (at f p)) (read_element e s t.at) (sound s t.at h e) r c
