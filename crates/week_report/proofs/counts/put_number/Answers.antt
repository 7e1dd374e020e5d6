-- `week_report::counts::put_number` meets its contract. Assumes nothing.
use Rattle.week_report.proofs.Showing.{no_line, some_line}
use Rattle.lists.proofs.Writing.{nothing, then}
use Rattle.laws.specs.Bytes.{bytes}
use Rattle.week_report.proofs.counts.put_number.Goals as goal

pub returns-then-n-eq0 : goal.returns-then-n-eq0
returns-then-n-eq0 c = rw (no_line _ c.if-n-eq0.true) (nothing c.args.w.now)

pub returns : goal.returns
unfolding bytes
returns c =
    rw (some_line _ c.if-n-eq0.false)
    (then c.bytes.ensures (then c.plain.ensures (then c.bytes-2.ensures (then c.plain-2.ensures c.byte.ensures))))
