-- `strptime::answers::read_opened` meets its contract. Assumes nothing.
use Prim.Native.Nat.{◌≤◌}
use mathlib.Core.Path.{sym, ◌∙◌}
use native.Mathlib.Omega.{arith}
use lib.ListN.{length}
use lib.Seq.{length-take-le}
use Rattle.format.specs.declared.opening.Side.TheVariants.{Reader}
use Rattle.format.proofs.Openings.{Opens, opened_done, opened_bad, opened_long, stored, room}
use Rattle.strptime.specs.Answers.{refusal_of, reading_of}
use Rattle.strptime.proofs.Opens.{format_long, conversion_bad, format_read}
use Rattle.strptime.proofs.answers.read_opened.Goals as goal
use Rattle.strptime.proofs.answers.read_opened.Goals.{In-Ok}

-- the format opens whole, and there was room for its elements
whole : (c : In-Ok) → let a = c.args in Opens Reader a.format.now c.in-Ok.count
whole c = opened_done _ _ c.open.ensures.value c.in-Ok.is

fits : (c : In-Ok) → let a = c.args in c.in-Ok.count ≤ length a.room.now
fits c = room _ _ (whole c) (c.requires (whole c).short)

pub slice_bounds-read_short-end : goal.slice_bounds-read_short-end
slice_bounds-read_short-end c = omega (arith, fits c)

pub slice_bounds-read_short-end-in-Ok : goal.slice_bounds-read_short-end-in-Ok
slice_bounds-read_short-end-in-Ok c = sym (length-take-le _ _ (omega (arith, fits c)))

pub returns-in-Err-TooLong : goal.returns-in-Err-TooLong
unfolding reading_of refusal_of
returns-in-Err-TooLong c = format_long _ _ _ (opened_long _ _ c.open.ensures.value (rw c.in-Err-TooLong.field-0-is at c.in-Err-TooLong.is))

pub returns-in-Err-Bad : goal.returns-in-Err-Bad
returns-in-Err-Bad c =
    let b = opened_bad _ _ c.open.ensures.value (rw c.in-Err-Bad.field-0-is at c.in-Err-Bad.is) in
    (rw c.in-Err-Bad.at-is at c.bad_conversion.ensures) ∙ conversion_bad _ _ _ b.short b.bad

pub returns-in-Ok : goal.returns-in-Ok
returns-in-Ok c =
    let d = (goal.at.returns-in-Ok c).In-Ok in
    let w = whole d in
    c.read_short.ensures ∙ rw (stored _ _ _ c.open.ensures.out_after w (fits d)) (format_read _ _ _ w.short w.whole)
