-- `words::offset_from` meets its contract.
use native.Mathlib.Omega.{arith}
use borrow.Author.Tests.{eq-eqb, ne_eqb}
use mir.Facts.{to_z-of_z}
use mir.Syntax.{w32}
use Rattle.words.specs.Words.{offset_from}
use Rattle.words.proofs.Signed.{signed_is}
use Rattle.words.proofs.offset_from.Goals as goal

pub returns-then-said-eq0 : goal.returns-then-said-eq0
unfolding offset_from
returns-then-said-eq0 c = rw (eq-eqb _ 0 c.if-said-eq0.true)

pub returns : goal.returns
unfolding offset_from
returns c =
    let s = c.cast_signed in
    rw (
      ne_eqb _ 0 c.if-said-eq0.false,
      to_z-of_z {w = w32} (record { sfits = s.type_inv }),
      s.ensures,
      signed_is c.args.word (omega arith),
    )
