-- `strptime::answers::read_by` meets its contract. Assumes nothing.
use Rattle.std.proofs.lemmas.Result.{err_from_is_err_and}
use Rattle.strptime.specs.Answers.{concluded}
use Rattle.strptime.proofs.Opens.{by_outcome, refused_by}
use Rattle.strptime.proofs.answers.read_by.Goals as goal

pub returns-in_err-stepped : goal.returns-in_err-stepped
returns-in_err-stepped c =
    let p = err_from_is_err_and c.from_residual.result c.from_residual.ensures.1 in
    rw (p.1, p.2) (by_outcome _ _ _ c.read_all-stepped.ensures c.in_err-stepped.was (refused_by _ _ _ _))

pub returns : goal.returns
unfolding concluded
returns c = by_outcome _ _ _ c.read_all-stepped.ensures c.in_ok-stepped.was c.judged.ensures
