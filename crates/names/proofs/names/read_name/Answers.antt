-- `names::names::read_name` meets its contract: the place of the short form tells the name, and the forms of that name are tried in order.
use mathlib.Core.Path.{sym, ◌∙◌}
use native.Mathlib.Omega.{arith}
use Rattle.names.proofs.Forms.{past, short_on, reads_full, by_others}
use Rattle.names.proofs.names.read_name.Goals as goal

pub returns-in_default : goal.returns-in_default
returns-in_default c =
    rw (← c.text_from-s.ensures) (sym (past c.args.t c.text_from-s.result.now _ (sym c.in_default.ensures) (omega arith)))

pub in_full-requires : goal.in_full-requires
in_full-requires c =
    let i = c.in-Some.ensures in
    short_on c.args.t c.text_from-s.result.now _ (sym i.0) i.1

pub returns-then-in_full : goal.returns-then-in_full
returns-then-in_full c =
    let i = c.in-Some.ensures in
    rw (← c.text_from-s.ensures, c.name_length.ensures)
    (sym (reads_full c.args.t c.text_from-s.result.now c.in-Some.index i.1 (sym c.in_full.ensures ∙ c.if-in_full.true)))

pub returns : goal.returns
returns c =
    let i = c.in-Some.ensures in
    rw (← c.text_from-s.ensures, c.or.ensures, c.first_middle.ensures, c.middles_of.ensures)
    (sym (by_others c.args.t c.text_from-s.result.now c.in-Some.index (sym i.0) i.1 (sym c.in_full.ensures ∙ c.if-in_full.false)))
