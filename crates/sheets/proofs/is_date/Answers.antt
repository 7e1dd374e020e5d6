-- `sheets::is_date` meets its contract. Assumes nothing.
use Rattle.std.specs.Prelude.{Ok, Err, is_ok}
use Rattle.calendar.specs.Dates.{from_fields}
use Rattle.calendar.specs.Calendar.{date_fault}
use Rattle.sheets.specs.Private.{is_date}
use lib.Dec.{eqb}
use mathlib.Core.Bool.{Bool, true, false, cond}
use mathlib.Core.Path.{◌≡◌, refl, ap, ◌∙◌}
use Rattle.sheets.proofs.is_date.Goals as goal

ok_is : {A E : Type 0} (b : Bool) (x : A) (e : E) → is_ok (cond b (Ok x) (Err e)) ≡ b
ok_is true x e = refl
ok_is false x e = refl

pub returns : goal.returns
unfolding is_date from_fields
returns c = c.is_ok.ensures.value ∙ ap is_ok c.from_fields.ensures ∙ ok_is (eqb (date_fault _ _ _) 0) _ _
