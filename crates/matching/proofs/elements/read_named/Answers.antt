-- `matching::elements::read_named` meets its contract. Assumes nothing.
use mathlib.Core.Path.{sym, ◌∙◌}
use native.Mathlib.Omega.{arith}
use lib.ListN.{length-drop}
use Rattle.matching.proofs.Lengths.{few_names, name_named}
use Rattle.matching.proofs.elements.read_named.Goals as goal

pub overflow_cast-name : goal.overflow_cast-name
overflow_cast-name c =
    let d = c in
    let a = d.args in
    omega (
      arith,
      few_names a.names,
      (name_named a.names _ (sym d.read_name.ensures ∙ c.in-Some.is)).place,
    )

pub overflow_add-result : goal.overflow_add-result
overflow_add-result c =
    let d = c in
    let a = d.args in
    omega (
      arith,
      length-drop a.at a.s.now,
      (name_named a.names _ (sym d.read_name.ensures ∙ c.in-Some.is)).long,
    )
