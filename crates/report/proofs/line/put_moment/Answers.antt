-- `report::line::put_moment` meets its contract. Assumes nothing.
use Rattle.laws.specs.Bytes.{bytes}
use Rattle.report.specs.Line.{moment_shown}
use Rattle.lists.proofs.Writing.{then}
use Rattle.report.proofs.line.put_moment.Goals as goal

pub returns : goal.returns
unfolding moment_shown bytes
returns c =
    then c.put_day.ensures
    (then c.byte.ensures
    (then c.put_said.ensures
    (then c.byte-2.ensures (then c.put_said-2.ensures (then c.byte-3.ensures c.put_said-3.ensures)))))
