-- How a name is read (RULES 6), of any table and at the start of any text: the full name is tried first, then the longest of the others.
use Rattle.std.specs.Prelude.{ℕ, ◌≤◌, ◌<◌, true, ◌≡◌, length}
use mathlib.Core.List.{List, Memᴰ as Member}
use Rattle.names.specs.Names.{Form, names_of, name_at, others_of, forms_of, goes_on, read_name}
use Rattle.names.specs.declared.names.NameForm.TheVariants.{Full}
use Rattle.names.specs.declared.names.Names.{Names}
use Rattle.std.specs.Prelude.{None, Some}
use Rattle.names.specs.Names.{found}

module _ (t : Names) (s : List ℕ) where
  -- the text goes on with the full name at a place of the table, and with one of some forms
  abbrev pub StandsFull : ℕ → Type 0
  StandsFull i = (i < length (names_of t)) × (goes_on (name_at t i) s ≡ true)

  abbrev pub StandsAmong : List Form → Form → Type 0
  StandsAmong xs x = Member x xs × (goes_on x.letters s ≡ true)

  -- what is read is this form: its name, its length, and which form it is
  abbrev pub IsRead : Form → Type 0
  IsRead x = read_name t s ≡ Some (found x.index (length x.letters) x.form)

  pub record NameRule : Type 0 where
    -- the full name, where the text goes on with one
    pub full : (i : ℕ) → StandsFull i → read_name t s ≡ Some (found i (length (name_at t i)) Full)
    -- otherwise one of the others, where it goes on with any
    pub other : ((i : ℕ) → StandsFull i → ⊥) → (x : Form) → StandsAmong (others_of t) x
        → (y : Form) × StandsAmong (others_of t) y × IsRead y × (y.form ≡ Full → ⊥)
    -- of whatever forms it goes on with, one of the same name that is at least as long as each of them
    pub longest : (x : Form) → StandsAmong (forms_of t) x
        → (y : Form) × StandsAmong (forms_of t) y × IsRead y × (y.index ≡ x.index) × (length x.letters ≤ length y.letters)
    -- none, where it goes on with none
    pub none : ((x : Form) → StandsAmong (forms_of t) x → ⊥) → read_name t s ≡ None
    -- all forms that it goes on with are of one name
    pub one_name : (x y : Form) → StandsAmong (forms_of t) x → StandsAmong (forms_of t) y → x.index ≡ y.index
    -- each form is how its name begins
    pub begins : (x : Form) → Member x (forms_of t)
        → (x.index < length (names_of t)) × (goes_on x.letters (name_at t x.index) ≡ true)
