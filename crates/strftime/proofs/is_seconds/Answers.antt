-- `strftime::is_seconds` meets its contract.
use borrow.Author.Tests.{lt-leb, lt-ltb, le-ltb}
use Rattle.strftime.specs.Writing.{is_seconds}
use Rattle.strftime.proofs.is_seconds.Goals as goal

pub returns-then-e-ge256 : goal.returns-then-e-ge256
unfolding is_seconds
returns-then-e-ge256 c = rw (le-ltb c.args.e 256 c.if-e-ge256.true)

pub returns-else-e-ge256 : goal.returns-else-e-ge256
unfolding is_seconds
returns-else-e-ge256 c = rw (lt-ltb c.args.e 256 c.if-e-ge256.false) (lt-leb 256 c.args.e c.if-e-ge256.false)
