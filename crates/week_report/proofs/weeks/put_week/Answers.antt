-- `week_report::weeks::put_week` meets its contract. Assumes nothing.
use Rattle.week_report.specs.Private.{tally_of}
use Rattle.week_report.specs.Weeks.{week_line}
use Rattle.lists.proofs.Writing.{then}
use Rattle.laws.specs.Bytes.{bytes}
use Rattle.week_report.proofs.weeks.put_week.Goals as goal

pub returns : goal.returns
unfolding week_line tally_of bytes
returns c =
    then c.four.ensures
    (then c.bytes.ensures (then c.two.ensures (then c.byte.ensures (then c.plain.ensures c.byte-2.ensures))))
