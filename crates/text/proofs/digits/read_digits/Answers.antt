-- `text::digits::read_digits` meets its contract. The invariant: reading on from here, after the digits that spell the value,
-- gives what is to be read; and the value is below 10 to the count, so it fits.
use Prim.Native.Nat.{◌<◌, ◌≤◌}
use mathlib.Core.Path.{◌≡◌, sym, ◌∙◌}
use native.Mathlib.Omega.{arith}
use lib.Dec.{lit<}
use lib.ListN.{get_or, take, length-take}
use Rattle.text.proofs.Decimals.{from_none, full, stop, more, digit_range, grows, room}
use Rattle.text.proofs.digits.read_digits.Goals as goal
use Rattle.text.proofs.digits.read_digits.Goals.{Else-not-is_digit}

pub loop-count-init : goal.loop-count-init
loop-count-init c =
    record {
      fits = lit< tt;
      reads = rw c.text_from-rest.ensures (from_none _ _ (rw (c.text_from-rest.ensures, c.min.ensures) at c.min-most.ensures));
    }

pub returns-then-not-is_digit : goal.returns-then-not-is_digit
returns-then-not-is_digit c =
    let l = c.loop-count in
    sym (stop l.value l.count _ l.count (omega arith) c.is_digit.ensures c.if-not-is_digit.true) ∙ l.invariant.reads

-- the byte is a digit, and another digit has room
fits : (c : Else-not-is_digit)
    → let b = get_or (take c.min-most.result c.text_from-rest.result.now) c.loop-count.count 0 in
    (48 ≤ b) × (b ≤ 57) × (c.loop-count.value < 100000000)
fits c =
    let l = c.loop-count in
    let d = digit_range _ c.is_digit.ensures c.if-not-is_digit.false in
    (d.0, d.1, room l.count (omega (arith, length-take c.min-most.result c.text_from-rest.result.now)) l.invariant.fits)

pub overflow_mul-value : goal.overflow_mul-value
overflow_mul-value c = omega (arith, fits c)

pub overflow_sub-value : goal.overflow_sub-value
overflow_sub-value c = omega (arith, fits c)

pub overflow_add-value : goal.overflow_add-value
overflow_add-value c = omega (arith, fits (goal.at.overflow_add-value c).Else-not-is_digit)

pub loop-count-preserved : goal.loop-count-preserved
loop-count-preserved c =
    let l = c.loop-count in
    record {
      fits = grows l.count l.invariant.fits (omega (arith, fits (goal.at.loop-count-preserved c).Else-not-is_digit));
      reads = sym (more l.value l.count _ l.count (omega arith) c.is_digit.ensures c.if-not-is_digit.false) ∙ l.invariant.reads;
    }

pub returns : goal.returns
returns c =
    let l = c.loop-count in
    let e : c.min-most.result ≡ l.count = omega (arith, length-take c.min-most.result c.text_from-rest.result.now) in
    rw e (sym (full l.value l.count _ l.count (omega arith)) ∙ l.invariant.reads)
