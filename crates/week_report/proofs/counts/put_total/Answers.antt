-- `week_report::counts::put_total` meets its contract. Assumes nothing.
use Rattle.lists.proofs.Writing.{then}
use Rattle.week_report.specs.Weeks.{total_line}
use Rattle.laws.specs.Bytes.{bytes}
use Rattle.week_report.proofs.counts.put_total.Goals as goal

pub returns : goal.returns
unfolding total_line bytes
returns c = then c.bytes.ensures (then c.plain.ensures c.byte.ensures)
