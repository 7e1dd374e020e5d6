-- `strftime::first_seconds` meets its contract: what the entries from here on have first is what all have.
use mathlib.Core.Path.{sym, ap, ◌∙◌}
use native.Mathlib.Omega.{arith}
use Rattle.std.specs.Prelude.{Some}
use Rattle.strftime.proofs.Offsets.{no_more, seconds_here, seconds_later}
use Rattle.strftime.proofs.first_seconds.Goals as goal

pub returns-then-is_seconds : goal.returns-then-is_seconds
returns-then-is_seconds c =
    let es = c.args.elements.now in
    ap Some c.sign_of.ensures
    ∙ sym (seconds_here es c.loop-e.e-index (omega arith) c.is_seconds.ensures c.if-is_seconds.true)
    ∙ c.loop-e.invariant

pub loop-e-preserved : goal.loop-e-preserved
loop-e-preserved c =
    seconds_later c.args.elements.now c.loop-e.e-index (omega arith) c.is_seconds.ensures c.if-is_seconds.false ∙ c.loop-e.invariant

pub returns : goal.returns
returns c = sym (no_more c.args.elements.now c.loop-e.e-index (omega arith)) ∙ c.loop-e.invariant
