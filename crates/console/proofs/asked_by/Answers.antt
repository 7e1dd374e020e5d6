-- `console::asked_by` by the two tests of ==, and by the first byte.
use Rattle.std.proofs.Common.{rules}
use Rattle.laws.specs.Bytes.{bytes}
use Rattle.console.proofs.Arguments.{test, by_help, by_version, by_nothing, by_dash, by_file}
use Rattle.console.proofs.asked_by.Goals as goal

pub returns-then-eq : goal.returns-then-eq
unfolding bytes
returns-then-eq c = by_help _ (test _ _ _ c.eq.ensures c.as_slice.ensures) c.if-eq.true

pub returns-then-eq-2 : goal.returns-then-eq-2
unfolding bytes
returns-then-eq-2 c =
    by_version _ (test _ _ _ c.eq.ensures c.as_slice.ensures) c.if-eq.false (test _ _ _ c.eq-2.ensures c.as_slice-2.ensures) c.if-eq-2.true

pub returns-then-is_empty : goal.returns-then-is_empty
unfolding bytes
returns-then-is_empty c =
    by_nothing _ (test _ _ _ c.eq.ensures c.as_slice.ensures) c.if-eq.false (test _ _ _ c.eq-2.ensures c.as_slice-2.ensures) c.if-eq-2.false
    (search rules)

pub returns-then-argument-eq45 : goal.returns-then-argument-eq45
unfolding bytes
returns-then-argument-eq45 c =
    by_dash _ (test _ _ _ c.eq.ensures c.as_slice.ensures) c.if-eq.false (test _ _ _ c.eq-2.ensures c.as_slice-2.ensures) c.if-eq-2.false
    (search rules) c.if-argument-eq45.true

pub returns : goal.returns
unfolding bytes
returns c =
    by_file _ (test _ _ _ c.eq.ensures c.as_slice.ensures) c.if-eq.false (test _ _ _ c.eq-2.ensures c.as_slice-2.ensures) c.if-eq-2.false
    (search rules) c.if-argument-eq45.false
