-- The proof of `open_to`, which calls itself: each way through the loop is a turn of `proofs/Turns.antt`. The measure is the remaining
-- depth, and that of the loop what is left of the format.
use Prim.Native.Nat.{◌<◌}
use Rattle.std.proofs.Common.{◌≡◌, ◌∙◌, sym, Err, rules}
use native.Mathlib.Omega.{arith}
use Rattle.laws.proofs.Cases.{clash}
use Rattle.format.specs.Opening.{longest, sign_at}
use Rattle.format.proofs.Turns.{begins, finished, passes, stores_byte, stores_conversion, refuses, sign_within, modest}
use Rattle.format.proofs.Turns.{too_deep, asks, opens, opens_bad}
use Rattle.format.proofs.opening.+open_to.Goals as goal

pub loop-i-init : goal.loop-i-init
loop-i-init t c = begins _ _ _ _ _ _

pub overflow_add-next : goal.overflow_add-next
overflow_add-next t c = omega (arith, passes c.loop-i.invariant (omega arith) c.piece_of-piece.ensures, c.requires.short)

-- ---- a byte

pub loop-i-preserved-in-Byte : goal.loop-i-preserved-in-Byte
loop-i-preserved-in-Byte t c =
    stores_byte c.loop-i.invariant (omega arith) c.piece_of-piece.ensures c.in-Byte.is c.store.ensures

pub loop-i-smaller-in-Byte : goal.loop-i-smaller-in-Byte
loop-i-smaller-in-Byte t c = omega (arith, passes c.loop-i.invariant (omega arith) c.piece_of-piece.ensures)

-- ---- a conversion

pub loop-i-preserved-in-Convert : goal.loop-i-preserved-in-Convert
loop-i-preserved-in-Convert t c =
    stores_conversion c.loop-i.invariant (omega arith) c.piece_of-piece.ensures
    c.sign_at.ensures
    c.in-Convert.is
    c.conversion_at.ensures
    c.store-in-Convert.ensures

pub loop-i-smaller-in-Convert : goal.loop-i-smaller-in-Convert
loop-i-smaller-in-Convert t c = omega (arith, passes c.loop-i.invariant (omega arith) c.piece_of-piece.ensures)

pub conversion_at-requires : goal.conversion_at-requires
conversion_at-requires t c =
    let m = modest c.loop-i.invariant (omega arith) c.piece_of-piece.ensures c.in-Convert.is in
    let s : sign_at c.args.sign c.loop-i.i < longest =
    sign_within c.args.sign c.loop-i.i (omega (arith, c.requires.short)) c.requires.sign in
    (rw c.sign_at.ensures s, m.flag, omega (arith, m.width))

-- ---- a composite

pub returns-then-depth-eq0 : goal.returns-then-depth-eq0
returns-then-depth-eq0 t c =
    let g = too_deep c.loop-i.invariant (omega arith) c.piece_of-piece.ensures c.sign_at-at.ensures c.in-Open.is c.if-depth-eq0.true in
    record { value = g.0; out_after = g.1 }

pub open_to-requires : goal.open_to-requires
open_to-requires t c = (
  omega arith,
  asks c.loop-i.invariant (omega arith) c.piece_of-piece.ensures
      c.sign_at-at.ensures
      c.in-Open.is
      c.if-depth-eq0.false
      c.own_format.ensures
      c.requires,
)

pub returns-in_err-n-in-Open : goal.returns-in_err-n-in-Open
returns-in_err-n-in-Open t c =
    let o = c.open_to in
    let was : o.result ≡ Err c.in_err-n-in-Open.field-0.0 = c.in_err-n-in-Open.was in
    let same : c.from_residual.result ≡ Err c.in_err-n-in-Open.field-0.0 = search rules in
    let g = opens_bad c.loop-i.invariant (omega arith) c.piece_of-piece.ensures
    c.sign_at-at.ensures
    c.in-Open.is
    c.if-depth-eq0.false
    c.own_format.ensures
    (o.ensures.value, o.ensures.out_after)
    (λ k e. clash (cc)) in
    record { value = same ∙ sym was ∙ g.0; out_after = g.1 }

pub loop-i-preserved : goal.loop-i-preserved
loop-i-preserved t c =
    let o = c.open_to in
    opens c.loop-i.invariant (omega arith) c.piece_of-piece.ensures
    c.sign_at-at.ensures
    c.in-Open.is
    c.if-depth-eq0.false
    c.own_format.ensures
    (o.ensures.value, o.ensures.out_after)
    c.in_ok-n-in-Open.was

pub loop-i-smaller : goal.loop-i-smaller
loop-i-smaller t c = omega (arith, passes c.loop-i.invariant (omega arith) c.piece_of-piece.ensures)

-- ---- the other ways out

pub returns-in-Refuse : goal.returns-in-Refuse
returns-in-Refuse t c =
    let g = refuses c.loop-i.invariant (omega arith) c.piece_of-piece.ensures c.sign_at-in-Refuse.ensures c.in-Refuse.is in
    record { value = g.0; out_after = g.1 }

pub returns : goal.returns
returns t c =
    let g = finished c.loop-i.invariant c.loop-i-test.false in
    record { value = g.0; out_after = g.1 }
