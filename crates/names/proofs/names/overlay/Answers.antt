-- `names::names::overlay` meets its contract. The invariant: to store the rest of the text from here on gives what is to be stored.
use mathlib.Core.Path.{◌∙◌}
use native.Mathlib.Omega.{arith}
use Rattle.names.proofs.Rows.{stored, stored_all}
use Rattle.names.proofs.names.overlay.Goals as goal

pub loop-i-preserved : goal.loop-i-preserved
loop-i-preserved c =
    let a = c.args in
    let l = c.loop-i in
    stored a.case a.name.now l.out l.i (omega arith) c.cased.ensures ∙ l.invariant

pub returns : goal.returns
returns c =
    let a = c.args in
    let l = c.loop-i in
    stored_all a.case a.name.now l.out l.i (omega arith) ∙ l.invariant
