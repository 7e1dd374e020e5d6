-- Cases of RULES 6 on the forms of names, each beside what it must give. A finished reading has the place and the forms that its text says
-- (`unread` and `forms` of Demand); its search goes through the whole calendar and is not computed here.
use Rattle.std.specs.Prelude.{ℕ, suc, cond, ◌&&◌, eqb, length, take}
use Prim.Native.String.{String}
use mathlib.Core.List.{List, [], ◌∷◌, ◌++◌, flat_map}
use Rattle.laws.specs.Bytes.{bytes}
use Rattle.laws.specs.Lists.{range}
use Rattle.kinds.specs.Kinds.{month, weekday}
use Rattle.format.specs.Opening.{opening}
use Rattle.format.specs.declared.opening.Side.TheVariants.{Reader}
use Rattle.judge.specs.declared.Engine.{Engine}
use Rattle.judge.specs.declared.Engine.TheVariants.{Skipping, Within}
use Rattle.strptime.specs.Answers.{reading_by}
use Rattle.names.specs.Names.{names_of, read_name}
use Rattle.names.specs.declared.names.NameForm.{NameForm}
use Rattle.names.specs.declared.names.NameForm.TheVariants.{Full, Middle, Short}
use Rattle.names.specs.declared.names.Names.{Names}
use Rattle.names.specs.declared.names.Names.TheVariants.{Weekdays, Months, Halves}
use Rattle.demands.specs.Facts.{last_form, facts, end_from}
use Rattle.cases.specs.Starred.{Case}
use Rattle.std.specs.Prelude.{None, Option, Some}
use Rattle.names.specs.declared.names.NameRead.{NameRead}

-- a form by a number: 0 none, 1 full, 2 middle, 3 short
unfoldable pub form : Option NameForm → ℕ
form None = 0
form (Some Full) = 1
form (Some Middle) = 2
form (Some Short) = 3

-- what a text says by a format: its first unread offset, the form of its last weekday name, and that of its last month name
unfoldable pub says : String → String → List ℕ
says s f =
    let xs = facts (bytes f) (bytes s) in
    end_from (opening Reader (bytes f)).elements (bytes s) 0 ∷ form (last_form weekday xs) ∷ form (last_form month xs) ∷ []

-- what a reading by an engine comes to: the number, the place, and the two forms
unfoldable pub names : Engine → String → String → List ℕ
names e s f =
    let r = reading_by e (bytes f) (bytes s) in
    r.number ∷ r.place ∷ form r.forms.weekday ∷ form r.forms.month ∷ []

unfoldable pub name_cases : List Case
name_cases =
    -- Tues is taken, and d is left
    (says "6 Mar 1934 Tuesd" "%d %b %Y %a", 15 ∷ 2 ∷ 3 ∷ [])
    -- each form of a month
    ∷ (says "5 SEPTEMBER 1934" "%d %b %Y", 16 ∷ 0 ∷ 1 ∷ [])
    ∷ (says "5 Sept 1934" "%d %B %Y", 11 ∷ 0 ∷ 2 ∷ [])
    ∷ (says "5 sep 1934" "%d %h %Y", 10 ∷ 0 ∷ 3 ∷ [])
    ∷ (says "1934 5 Septem" "%Y %d %b", 11 ∷ 0 ∷ 2 ∷ [])
    -- May is the full name
    ∷ (says "5 May 1934" "%d %b %Y", 10 ∷ 0 ∷ 1 ∷ [])
    -- each form of a weekday
    ∷ (says "Tuesday" "%a", 7 ∷ 1 ∷ 0 ∷ [])
    ∷ (says "Tues" "%A", 4 ∷ 2 ∷ 0 ∷ [])
    ∷ (says "tue" "%a", 3 ∷ 3 ∷ 0 ∷ [])
    ∷ (says "Thursday" "%a", 8 ∷ 1 ∷ 0 ∷ [])
    ∷ (says "Thursd" "%a", 5 ∷ 2 ∷ 0 ∷ [])
    ∷ (says "THURS" "%A", 5 ∷ 2 ∷ 0 ∷ [])
    ∷ (says "Thur" "%a", 4 ∷ 2 ∷ 0 ∷ [])
    ∷ (says "Thu" "%a", 3 ∷ 3 ∷ 0 ∷ [])
    -- the last of two names
    ∷ (says "Mon Monday 5 Mar 1934" "%a %A %d %b %Y", 21 ∷ 1 ∷ 3 ∷ [])
    ∷ (says "Monday Mon 5 Mar 1934" "%a %A %d %b %Y", 21 ∷ 3 ∷ 3 ∷ [])
    ∷ (says "March Mar" "%b %b", 9 ∷ 0 ∷ 3 ∷ [])
    -- numbers leave the forms as they are
    ∷ (says "Mon 1 March 3 5 1934" "%a %u %b %m %d %Y", 20 ∷ 3 ∷ 1 ∷ [])
    ∷ (says "1 Mon 3 March 5 1934" "%w %a %m %b %d %Y", 20 ∷ 3 ∷ 1 ∷ [])
    ∷ (says "0 7 3" "%w %u %m", 5 ∷ 0 ∷ 0 ∷ [])
    -- a half of the day is the name of no weekday and no month
    ∷ (says "7 PM" "%I %p", 4 ∷ 0 ∷ 0 ∷ [])
    -- a refused reading gives none: 6, 8, 10 and 11
    ∷ (names Skipping "Tues Sep" "%a %b %Y", 6 ∷ 8 ∷ 0 ∷ 0 ∷ [])
    ∷ (names Skipping "Tues Thurs" "%a %a", 8 ∷ 5 ∷ 0 ∷ 0 ∷ [])
    ∷ (names Skipping "5 Sept" "%d %b", 10 ∷ 1 ∷ 0 ∷ 0 ∷ [])
    ∷ (names (Within 0) "Tues" "%a", 11 ∷ 0 ∷ 0 ∷ 0 ∷ [])
    ∷ []

-- a text that is read whole as a name, in the form of this number: its letters and a blank
unfoldable pub whole : ℕ → List ℕ → Option NameRead → List ℕ
whole g s (Some r) = cond (eqb r.length (length s) && eqb (form (Some r.form)) g) (s ++ (32 ∷ [])) []
whole g s None = []

-- of all beginnings of the names of a table, from no letter to all, those that are read whole in a form
unfoldable pub in_form : NameForm → Names → List ℕ
in_form f t =
    flat_map (λ n. flat_map (λ k. whole (form (Some f)) (take k n) (read_name t (take k n))) (range 0 (suc (length n)))) (names_of t)

unfoldable pub form_cases : List Case
form_cases =
    (in_form Full Weekdays, bytes "Monday Tuesday Wednesday Thursday Friday Saturday Sunday ")
    ∷ (in_form Middle Weekdays, bytes "Tues Thur Thurs ")
    ∷ (in_form Short Weekdays, bytes "Mon Tue Wed Thu Fri Sat Sun ")
    ∷ (in_form Full Months, bytes "January February March April May June July August September October November December ")
    ∷ (in_form Middle Months, bytes "Sept ")
    ∷ (in_form Short Months, bytes "Jan Feb Mar Apr Jun Jul Aug Sep Oct Nov Dec ")
    ∷ (in_form Full Halves, bytes "AM PM ")
    ∷ (in_form Middle Halves, [])
    ∷ (in_form Short Halves, [])
    ∷ []

-- everything here, for the proof that computes
unfoldable pub computes : Unit {0}
unfolding range form says names name_cases whole in_form form_cases
computes = tt
