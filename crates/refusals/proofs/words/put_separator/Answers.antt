-- `refusals::words::put_separator` meets its contract. Assumes nothing.
use native.Mathlib.Omega.{arith}
use borrow.Author.Tests.{ne_eqb}
use Rattle.laws.specs.Bytes.{bytes}
use Rattle.lists.proofs.Writing.{nothing}
use Rattle.refusals.specs.Words.{separator}
use Rattle.refusals.proofs.words.put_separator.Goals as goal

pub returns-in-0 : goal.returns-in-0
unfolding separator
returns-in-0 c = rw c.in-0.is (nothing c.args.w.now)

pub returns-in-1 : goal.returns-in-1
unfolding separator bytes
returns-in-1 c = rw c.in-1.is c.bytes.ensures

pub returns-in_default : goal.returns-in_default
unfolding separator bytes
returns-in_default c = rw (ne_eqb c.args.more 0 (λ e. omega arith), ne_eqb c.args.more 1 (λ e. omega arith)) c.bytes-in_default.ensures
