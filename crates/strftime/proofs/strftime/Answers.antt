-- `strftime::strftime` meets its contract: 1 and 2 are answered here, what follows is that of the opened format.
use native.Mathlib.Omega.{arith}
use Rattle.std.proofs.lemmas.Result.{err_from_is_err_and}
use Rattle.strftime.proofs.Order.{too_long_lem, bad_moment, good_moment}
use Rattle.strftime.proofs.strftime.Goals as goal

pub returns-then-format-gt-LONGEST : goal.returns-then-format-gt-LONGEST
returns-then-format-gt-LONGEST c = too_long_lem _ _ _ (omega arith)

pub returns-then-format-le-SHORT_BYTES : goal.returns-then-format-le-SHORT_BYTES
returns-then-format-le-SHORT_BYTES c = good_moment _ _ _ c.in_ok-valid.ensures c.write_plain.ensures

pub returns-then-format-le-MIDDLE_BYTES : goal.returns-then-format-le-MIDDLE_BYTES
returns-then-format-le-MIDDLE_BYTES c = good_moment _ _ _ c.in_ok-valid.ensures c.write_plain-then-format-le-MIDDLE_BYTES.ensures

pub returns-in_err-valid : goal.returns-in_err-valid
returns-in_err-valid c =
    let p = err_from_is_err_and c.from_residual.result c.from_residual.ensures.1 in
    rw (p.1, p.2) (bad_moment _ _ _ (omega arith) c.in_err-valid.ensures)

pub returns : goal.returns
returns c = good_moment _ _ _ c.in_ok-valid.ensures c.write_styled.ensures
