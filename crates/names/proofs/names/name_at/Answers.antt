-- `names::names::name_at` meets its contract: past the table's end no name is left.
use mathlib.Core.Path.{sym}
use lib.ListN.{length-map, get_or-map, get_or-eq_default}
use Rattle.names.specs.Names.{names_of, name_at}
use Rattle.names.proofs.names.name_at.Goals as goal

pub returns-then-i-names : goal.returns-then-i-names
unfolding name_at
returns-then-i-names c =
    rw (← c.names_of-names.ensures) (sym (get_or-map (λ n. n.now) c.names_of-names.result.now c.args.i _))

pub returns-else-i-names : goal.returns-else-i-names
unfolding name_at
returns-else-i-names c =
    sym (get_or-eq_default (names_of c.args.t) _ (rw (← c.names_of-names.ensures, length-map) c.if-i-names.false))
