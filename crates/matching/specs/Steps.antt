-- Reading the elements from left to right, with the facts and the forms of names so far.
use Rattle.std.specs.Prelude.{ℕ, suc, Bool, true, false, cond, ◌||◌, List, [], ◌∷◌, eqb, set, replicate}
use Rattle.kinds.specs.Kinds.{kinds, weekday, month}
use Rattle.agreement.specs.Agreement.{said}
use Rattle.agreement.specs.declared.Facts.{Facts}
use Rattle.matching.specs.Elements.{read_element}
use Rattle.matching.specs.declared.Forms.{Forms}
use Rattle.matching.specs.declared.State.{State}
use Rattle.matching.specs.declared.Stepped.{Stepped}
use Rattle.matching.specs.declared.steps.Step.{Step}
use Rattle.std.specs.Prelude.{Err, None, Ok, Option, Result, Some}
use Rattle.matching.specs.declared.Refused.TheVariants.{Conflict}
use Rattle.matching.specs.declared.Refused.{Refused}
use Rattle.matching.specs.declared.elements.Item.TheVariants.{Fact, Skip}
use Rattle.matching.specs.declared.elements.Item.{Item}
use Rattle.names.specs.declared.names.NameForm.{NameForm}

-- nothing said yet
unfoldable pub unsaid : Facts
unsaid = record { said = replicate kinds 0 }

unfoldable pub start : State
start = record { facts = unsaid; at = 0 }

-- a reading with what was said so far, at an offset of the text
abbrev pub here : List ℕ → ℕ → State
here said at = record { facts = record { said = said }; at = at }

-- the forms of the last weekday name and of the last month name; none of either
abbrev pub both : Option NameForm → Option NameForm → Forms
both w m = record { weekday = w; month = m }

unfoldable pub no_forms : Forms
no_forms = both None None

-- a reading that goes on, and one that is refused and stays where it was
unfoldable pub goes : Facts → Forms → ℕ → Stepped
goes f fs at = record { state = record { facts = f; at = at }; forms = fs; outcome = Ok tt }

unfoldable pub stays : State → Forms → Result (Unit {0}) Refused → Stepped
stays t fs o = record { state = t; forms = fs; outcome = o }

-- what one step answers, with what was said after it
abbrev pub stepped : List ℕ → Step → Stepped
stepped said r = stays (here said r.at) (both r.weekday r.month) r.outcome

-- the facts with one more
unfoldable pub noted : Facts → ℕ → ℕ → Facts
noted f k n = record { said = set f.said k (suc n) }

-- the form of a later name takes the place of the one before; where no name stands, that one stays
unfoldable pub later : Option NameForm → Option NameForm → Option NameForm
later before None = before
later before (Some f) = Some f

-- the form of the last name of the kind `own`, after a fact of kind k
unfoldable pub latest : ℕ → Option NameForm → ℕ → Option NameForm → Option NameForm
latest own before k f = cond (eqb k own) (later before f) before

-- both forms after a fact
unfoldable pub met : Forms → ℕ → Option NameForm → Forms
met fs k f = both (latest weekday fs.weekday k f) (latest month fs.month k f)

-- a kind may be said again with the same number; with another, that is 8 (RULES 7)
unfoldable pub tell : State → Forms → ℕ → ℕ → Option NameForm → ℕ → ℕ → Stepped
tell t fs k n f from next =
    cond (eqb (said t.facts k) 0 || eqb (said t.facts k) (suc n)) (goes (noted t.facts k n) (met fs k f) next)
    (stays t fs (Err (Conflict from)))

unfoldable pub taken : State → Forms → Result Item Refused → Stepped
taken t fs (Ok (Skip next)) = goes t.facts fs next
taken t fs (Ok (Fact k n f from next)) = tell t fs k n f from next
taken t fs (Err why) = stays t fs (Err why)

-- one element is read
unfoldable pub step_on : ℕ → List ℕ → State → Forms → Stepped
step_on e s t fs = taken t fs (read_element e s t.at)

unfoldable pub is_read : Result (Unit {0}) Refused → Bool
is_read (Ok u) = true
is_read (Err why) = false

-- the elements in order, up to the first refusal
unfoldable pub read_all : List ℕ → List ℕ → State → Forms → Stepped
read_all [] s t fs = stays t fs (Ok tt)
read_all (e ∷ es) s t fs =
    let r = step_on e s t fs in
    let more = read_all es s r.state r.forms in
    cond (is_read r.outcome) more r

-- everything here, for proofs that compute
unfoldable pub computes : Unit {0}
unfolding unsaid start goes stays noted no_forms later latest met tell taken step_on is_read read_all
computes = tt
