-- Reading the elements one after the other, over plain variables.
-- Assumes nothing.
use Prim.Native.Nat.{ℕ, suc, ◌+◌, ◌≤◌, ◌<◌}
use mathlib.Core.Bool.{Bool, true, false, cond, not, ◌||◌}
use mathlib.Core.List.{List}
use mathlib.Core.Path.{◌≡◌, refl, sym, ◌∙◌}
use native.Mathlib.Numerals.{add-one}
use native.Mathlib.Omega.{arith}
use borrow.Author.Tests.{not-true, not-false}
use lib.Dec.{eqb}
use lib.ListN.{length, get_or, drop, set, drop_of_length-le}
use lib.Seq.{drop-cons}
use Rattle.laws.proofs.Cases.{picked}
use Rattle.agreement.specs.Agreement.{said}
use Rattle.matching.specs.Elements.{read_element}
use Rattle.matching.specs.Steps.{here, goes, stays, noted, met, tell, taken, step_on, is_read, read_all}
use Rattle.matching.specs.declared.Forms.{Forms}
use Rattle.matching.specs.declared.State.{State}
use Rattle.matching.specs.declared.Stepped.{Stepped}
use Rattle.matching.proofs.Sound.{place, Finds, Sound, sound}
use Rattle.std.specs.Prelude.{Err, Ok, Option, Result}
use Rattle.matching.specs.declared.Refused.TheVariants.{Conflict}
use Rattle.matching.specs.declared.Refused.{Refused}
use Rattle.matching.specs.declared.elements.Item.TheVariants.{Fact, Skip}
use Rattle.matching.specs.declared.elements.Item.{Item}
use Rattle.names.specs.declared.names.NameForm.{NameForm}

-- a number is the first of its kind, or the one that was said
abbrev consistent : State → ℕ → ℕ → Bool
consistent t k n = eqb (said t.facts k) 0 || eqb (said t.facts k) (suc n)

-- a step stays within the text, and refuses at an offset of it
unfoldable pub Placed : List ℕ → Result (Unit {0}) Refused → Type 0
Placed s (Ok u) = Unit {0}
Placed s (Err why) = place why ≤ length s

abbrev pub Within : List ℕ → Stepped → Type 0
Within s r = (r.state.at ≤ length s) × Placed s r.outcome

taken_within : (s : List ℕ) (t : State) (fs : Forms) → t.at ≤ length s → (i : Result Item Refused) → Sound s i → Within s (taken t fs i)
unfolding taken goes stays tell Finds Placed
taken_within s t fs h (Ok (Skip n)) p = (p, tt)
taken_within s t fs h (Ok (Fact k n f from next)) p =
    picked (Within s) (consistent t k n) (p.2, tt) (h, omega (arith, p.1, p.2))
taken_within s t fs h (Err why) p = (h, p)

pub step_placed : (e : ℕ) (s : List ℕ) (t : State) (fs : Forms) → t.at ≤ length s → Within s (step_on e s t fs)
unfolding step_on
step_placed e s t fs h = taken_within s t fs h (read_element e s t.at) (sound s t.at h e)

pub step_within : (e : ℕ) (s : List ℕ) (t : State) (fs : Forms) (u : State) (gs : Forms) (o : Result (Unit {0}) Refused) → t.at ≤ length s
    → stays u gs o ≡ step_on e s t fs → u.at ≤ length s
unfolding stays
step_within e s t fs u gs o h g = (rw (← g) at (step_placed e s t fs h)).0

-- ---- one element, by what was read there
module _ (e : ℕ) (s : List ℕ) (t : State) (fs : Forms) {m : Result Item Refused} (g : m ≡ read_element e s t.at) where
  pub on_skip : {n : ℕ} → m ≡ Ok (Skip n) → stays (here t.facts.said n) fs (Ok tt) ≡ step_on e s t fs
  unfolding step_on taken goes stays
  on_skip f = rw (← g, f)

  pub on_refused : {why : Refused} → m ≡ Err why → stays t fs (Err why) ≡ step_on e s t fs
  unfolding step_on taken
  on_refused f = rw (← g, f)

  module _ {k n from next : ℕ} {x : Option NameForm} {b : Bool} (f : m ≡ Ok (Fact k n x from next)) (c : b ≡ not (consistent t k n)) where
    pub on_conflict : b ≡ true → stays t fs (Err (Conflict from)) ≡ step_on e s t fs
    unfolding step_on taken tell
    on_conflict h = rw (← g, f, not-true (consistent t k n) (sym c ∙ h))

    pub on_fact : {gs : Forms} → b ≡ false → gs ≡ met fs k x
        → stays (here (set t.facts.said k (n + 1)) next) gs (Ok tt) ≡ step_on e s t fs
    unfolding step_on taken tell noted goes stays
    on_fact h q = rw (← g, f, not-false (consistent t k n) (sym c ∙ h), add-one, q)

-- ---- one turn of the loop
refused_here : (o : Result (Unit {0}) Refused) → (o ≡ Ok tt → ⊥) → is_read o ≡ false
unfolding is_read
refused_here (Ok u) k = absurd (k refl)
refused_here (Err why) k = refl

module _ (es s : List ℕ) (t : State) (fs : Forms) (i : ℕ) where
  pub all_end : length es ≤ i → read_all (drop i es) s t fs ≡ stays t fs (Ok tt)
  unfolding read_all
  all_end h = rw (drop_of_length-le es h)

  module _ (h : i < length es) (u : State) (gs : Forms) (o : Result (Unit {0}) Refused)
      (e : stays u gs o ≡ step_on (get_or es i 0) s t fs) where
    all-is : read_all (drop i es) s t fs ≡ cond (is_read o) (read_all (drop (i + 1) es) s u gs) (stays u gs o)
    unfolding read_all stays
    all-is = rw (drop-cons es i 0 h, add-one, ← e)

    pub all_more : o ≡ Ok tt → read_all (drop i es) s t fs ≡ read_all (drop (i + 1) es) s u gs
    unfolding is_read
    all_more f = all-is ∙ rw f

    pub all_stop : (o ≡ Ok tt → ⊥) → read_all (drop i es) s t fs ≡ stays u gs o
    all_stop k = all-is ∙ rw (refused_here o k)
