-- `names::names::goes_on` meets its contract: letters that are equal without case have equal small letters.
use borrow.Author.Tests.{lt-leb}
use Rattle.names.proofs.Goes.{by_small, too_short}
use Rattle.names.proofs.names.goes_on.Goals as goal

pub returns-then-name-s : goal.returns-then-name-s
returns-then-name-s c =
    let same = c.eq_ignore_ascii_case.ensures.test in
    by_small c.args.name.now c.args.s.now c.if-name-s.true same.0 same.1

pub returns-else-name-s : goal.returns-else-name-s
returns-else-name-s c = rw (lt-leb _ _ c.if-name-s.false) (too_short c.args.name.now c.args.s.now c.if-name-s.false)
