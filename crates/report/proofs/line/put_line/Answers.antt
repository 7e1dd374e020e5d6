-- `report::line::put_line` meets its contract. Assumes nothing.
use Rattle.laws.specs.Bytes.{bytes}
use Rattle.report.specs.Line.{line_of}
use Rattle.lists.proofs.Writing.{then}
use Rattle.report.proofs.line.put_line.Goals as goal

pub returns : goal.returns
unfolding line_of bytes
returns c =
    then c.plain.ensures
    (then c.byte.ensures (then c.plain-2.ensures (then c.byte-2.ensures (then c.put_moment.ensures c.byte-3.ensures))))
