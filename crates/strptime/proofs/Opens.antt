-- What the reading of elements, and the opening of a format, come to in an answer, over plain variables.
-- Assumes nothing.
use Prim.Native.Nat.{ℕ, ◌≤◌, ◌<◌}
use mathlib.Core.List.{List}
use mathlib.Core.Path.{◌≡◌, refl, sym, ap, ◌∙◌}
use borrow.Author.Tests.{le-leb, lt-leb, eq-eqb, ne_eqb}
use lib.ListN.{length}
use Rattle.format.specs.Opening.{Whole, BadAt, longest, opening, most_elements, elements_in, entry_place}
use Rattle.format.specs.declared.opening.Side.TheVariants.{Reader}
use Rattle.judge.specs.declared.Engine.{Engine}
use Rattle.strptime.specs.Answers.{refused, reading_of, refusal_of, concluded, read_by, by_format, by_elements, unless_long, reading_by}
use Rattle.strptime.specs.Answers.{elements_reading_by}
use Rattle.matching.specs.Steps.{start, no_forms, read_all}
use Rattle.strptime.specs.declared.Reading.{Reading}
use Rattle.matching.specs.declared.Stepped.{Stepped}
use Rattle.std.specs.Prelude.{Result, Err}
use Rattle.matching.specs.declared.Forms.{Forms}
use Rattle.matching.specs.declared.State.{State}
use Rattle.matching.specs.declared.Refused.{Refused}
use Rattle.matching.specs.declared.Refused.TheVariants.{Mismatch, Range, Conflict}
use Rattle.strptime.specs.Private.{refusal_by}

-- ---- what the elements' reading comes to
pub by_outcome : (e : Engine) (es s : List ℕ) {r : Stepped} {o : Result (Unit {0}) Refused} {a : Reading}
    → r ≡ read_all es s start no_forms → r.outcome ≡ o → a ≡ concluded e r.state r.forms o → a ≡ read_by e es s
unfolding read_by
by_outcome e es s {r} q g h =
    h ∙ ap (concluded e r.state r.forms) (sym g) ∙ ap (λ (x : Stepped). concluded e x.state x.forms x.outcome) q

-- 6, 7 or 8
pub refused_by : (e : Engine) (t : State) (fs : Forms) (why : Refused) → reading_of (Err (refusal_by why)) ≡ concluded e t fs (Err why)
unfolding concluded reading_of refusal_of
refused_by e t fs (Mismatch p) = refl
refused_by e t fs (Range p) = refl
refused_by e t fs (Conflict p) = refl

-- ---- 5
module _ (s : List ℕ) (r : Reading) where
  pub text_long : longest < length s → refused 5 0 ≡ unless_long s r
  unfolding unless_long
  text_long h = rw (lt-leb (length s) longest h)

  pub text_short : length s ≤ longest → r ≡ unless_long s r
  unfolding unless_long
  text_short h = rw (le-leb (length s) longest h)

-- ---- by a format: 1, and 3 after 5
pub format_long : (e : Engine) (f s : List ℕ) → longest < length f → refused 1 0 ≡ reading_by e f s
unfolding reading_by
format_long e f s h = rw (lt-leb (length f) longest h)

module _ (e : Engine) (f s : List ℕ) (h : length f ≤ longest) where
  format_short : unless_long s (by_format e f s) ≡ reading_by e f s
  unfolding reading_by
  format_short = rw (le-leb (length f) longest h)

  pub conversion_bad : {p : ℕ} → (opening Reader f).ended ≡ BadAt p → unless_long s (refused 3 p) ≡ reading_by e f s
  unfolding by_format
  conversion_bad q = rw q at format_short

  pub format_read : (opening Reader f).ended ≡ Whole → unless_long s (read_by e (opening Reader f).elements s) ≡ reading_by e f s
  unfolding by_format
  format_read q = rw q at format_short

-- ---- by elements: 3 after 5
module _ (e : Engine) (es s : List ℕ) {n : ℕ} (c : n ≡ elements_in Reader most_elements es) where
  pub entry_bad : (n ≡ length es → ⊥) → {p : ℕ} → p ≡ entry_place es n → unless_long s (refused 3 p) ≡ elements_reading_by e es s
  unfolding elements_reading_by by_elements
  entry_bad d q = rw (← c, ne_eqb n (length es) d, q)

  pub entries_read : n ≡ length es → unless_long s (read_by e es s) ≡ elements_reading_by e es s
  unfolding elements_reading_by by_elements
  entries_read d = rw (← c, eq-eqb n (length es) d)
