-- `names::names::in_full` meets its contract: the letters after the short form are those that are left.
use mathlib.Core.Path.{sym, ◌∙◌}
use Rattle.names.specs.Names.{name_at}
use Rattle.names.proofs.Goes.{parted}
use Rattle.names.proofs.names.in_full.Goals as goal

pub returns : goal.returns
returns c =
    let a = c.args in
    c.goes_on.ensures
    ∙ rw (c.text_from.ensures, c.text_from-2.ensures, c.name_at.ensures) (sym (parted 3 (name_at a.t a.i) a.s.now c.requires))
