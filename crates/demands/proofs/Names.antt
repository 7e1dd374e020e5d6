-- How a name is read: the rule of Names holds, of every table and every text.
-- Assumes nothing.
use Prim.Native.Nat.{ℕ}
use mathlib.Core.Bool.{Bool, true, false, false≢true}
use mathlib.Core.List.{List}
use mathlib.Core.Path.{◌≡◌, refl, ◌∙◌}
use Rattle.laws.specs.Lists.{every}
use Rattle.laws.proofs.Lists.{every_member}
use Rattle.names.specs.Names as names
use Rattle.names.specs.Names.{Form, others_of, read_name}
use Rattle.names.specs.declared.names.NameForm.{NameForm}
use Rattle.names.specs.declared.names.NameForm.TheVariants.{Full, Middle, Short}
use Rattle.names.specs.declared.names.Names.{Names}
use Rattle.names.specs.declared.names.Names.TheVariants.{Weekdays, Months, Halves}
use Rattle.names.proofs.Forms.{of_name_lem, one_value, longest, longest_other, reads_full, no_full, reads_none}
use Rattle.names.proofs.Goes.{fails}
use Rattle.demands.specs.Names.{NameRule}

-- the other forms are not full: one computed test of each table
other : Form → Bool
other x = go x.form
  where
    go : NameForm → Bool
    go Full = false
    go Middle = true
    go Short = true

all_other : (t : Names) → every other (others_of t) ≡ true
unfolding names.computes every other
all_other Weekdays = refl
all_other Months = refl
all_other Halves = refl

not_full : (x : Form) → other x ≡ true → x.form ≡ Full → ⊥
unfolding other
not_full x e f = false≢true (rw f at e)

pub name_rule : (t : Names) (s : List ℕ) → NameRule t s
unfolding read_name
name_rule t s =
    record {
      full = λ i x. reads_full t s i x.0 x.1;
      other = λ none x w.
          let r = longest_other t s x w.0 w.1 in
          let read = no_full t s (λ i h. fails _ (λ g. none i (h, g))) ∙ r.found in
          (r.read, (r.listed, r.fits), read, not_full r.read (every_member other (others_of t) (all_other t) r.read r.listed));
      longest = λ x w.
          let r = longest t s x w.0 w.1 in
          (r.read, (r.listed, r.fits), r.found, r.same_name, r.longer);
      none = λ none. reads_none t s (λ x m. fails _ (λ g. none x (m, g)));
      one_name = λ x y p q. one_value t s x y p.0 q.0 p.1 q.1;
      begins = λ x m. let o = of_name_lem t x m in (o.place, o.begins);
    }
