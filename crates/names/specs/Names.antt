-- Names: seven weekdays, twelve months, the two halves of the day (RULES 5); and how a name is read (RULES 6).
use Rattle.std.specs.Prelude.{ℕ, suc, Bool, true, false, cond, List, [], ◌∷◌, ◌++◌, map, eqb, length, get_or, take}
use Prim.Native.String.{String}
use Rattle.laws.specs.Bytes.{bytes}
use Rattle.names.specs.Case.{fold}
use Rattle.names.specs.declared.names.Names.{Names}
use Rattle.names.specs.declared.names.Names.TheVariants.{Weekdays, Months, Halves}
use Rattle.names.specs.declared.names.NameForm.{NameForm}
use Rattle.names.specs.declared.names.NameForm.TheVariants.{Full, Middle, Short}
use Rattle.std.specs.Prelude.{None, Option, Some}
use Rattle.names.specs.declared.names.NameRead.{NameRead}

-- ---- the names, as they are written

unfoldable pub weekday_names : List (List ℕ)
weekday_names =
    map bytes ("Monday" ∷ "Tuesday" ∷ "Wednesday" ∷ "Thursday" ∷ "Friday" ∷ "Saturday" ∷ "Sunday" ∷ [])

unfoldable pub month_names : List (List ℕ)
month_names =
    map bytes
    ("January" ∷ "February" ∷ "March" ∷ "April" ∷ "May" ∷ "June" ∷ "July" ∷ "August" ∷ "September" ∷ "October"
    ∷ "November" ∷ "December" ∷ [])

unfoldable pub half_names : List (List ℕ)
half_names = map bytes ("AM" ∷ "PM" ∷ [])

-- the names of a table, in order
unfoldable pub names_of : Names → List (List ℕ)
names_of Weekdays = weekday_names
names_of Months = month_names
names_of Halves = half_names

-- the name at a place of its table, counted from 0
unfoldable pub name_at : Names → ℕ → List ℕ
name_at t i = get_or (names_of t) i []

-- the short form: the first three letters
abbrev pub short : List ℕ → List ℕ
short n = take 3 n

-- ---- their forms, as they are read

-- a form of a name: its letters, the place of the name in its table, and which form it is
pub record Form : Type 0 where
  pub letters : List ℕ
  pub index : ℕ
  pub form : NameForm

-- a middle form, of the name at place i
unfoldable pub middle : String → ℕ → Form
middle x i = record { letters = bytes x; index = i; form = Middle }

-- the middle forms, which old records have; the longest stands first
unfoldable pub middles_of : Names → List Form
middles_of Weekdays = middle "Thurs" 3 ∷ middle "Tues" 1 ∷ middle "Thur" 3 ∷ []
middles_of Months = middle "Sept" 8 ∷ []
middles_of Halves = []

-- one form of each name, counted from i
unfoldable pub each_as : NameForm → ℕ → List (List ℕ) → List Form
each_as f i [] = []
each_as f i (n ∷ ns) = record { letters = n; index = i; form = f } ∷ each_as f (suc i) ns

-- the forms that are not full, the longest first
unfoldable pub others_of : Names → List Form
others_of t = middles_of t ++ each_as Short 0 (map short (names_of t))

-- all forms of a table in the order in which they are tried: the full names, then the others
unfoldable pub forms_of : Names → List Form
forms_of t = each_as Full 0 (names_of t) ++ others_of t

-- ---- reading

-- a text goes on with some letters, compared without case
unfoldable pub goes_on : List ℕ → List ℕ → Bool
goes_on [] s = true
goes_on (a ∷ n) [] = false
goes_on (a ∷ n) (b ∷ s) = let more = goes_on n s in cond (eqb (fold a) (fold b)) more false

-- a name that was read: its place, how many bytes it takes, and its form
abbrev pub found : ℕ → ℕ → NameForm → NameRead
found i n f = record { index = i; length = n; form = f }

-- the first of some forms that a text goes on with
unfoldable pub first_form : List Form → List ℕ → Option NameRead
first_form [] s = None
first_form (x ∷ xs) s =
    let more = first_form xs s in
    cond (goes_on x.letters s) (Some (found x.index (length x.letters) x.form)) more

-- a name of a table at the start of a text, and the form in which it stands there
unfoldable pub read_name : Names → List ℕ → Option NameRead
read_name t s = first_form (forms_of t) s

-- the tables, for a proof that computes
unfoldable pub computes : Unit {0}
unfolding bytes weekday_names month_names half_names names_of name_at middle middles_of each_as others_of forms_of
computes = tt
