-- `refusals::words::put_label_before` meets its contract. Assumes nothing.
use mathlib.Core.Bool.{false}
use mathlib.Core.Path.{◌≡◌, sym, ◌∙◌}
use native.Mathlib.Omega.{arith}
use lib.ListN.{get_or, get_or-eq_default}
use Rattle.text.specs.Digits.{is_digit}
use Rattle.lists.proofs.Writing.{nothing}
use Rattle.refusals.specs.Words.{label_before}
use Rattle.refusals.proofs.words.put_label_before.Goals as goal
use Rattle.refusals.proofs.words.put_label_before.Goals.{else-word-gt0-via-then-word-gt0+else-is_digit}
use Rattle.refusals.proofs.words.put_label_before.Goals.{else-word-gt0-via-else-word-gt0}

pub returns-then-is_digit : goal.returns-then-is_digit
unfolding label_before
returns-then-is_digit c = rw (sym c.is_digit.ensures ∙ c.if-is_digit.true) c.put_label.ensures

pub returns-else-word-gt0 : goal.returns-else-word-gt0
unfolding label_before is_digit
returns-else-word-gt0 c =
    let d : is_digit (get_or c.args.word.now 0 0) ≡ false = elim c.else-word-gt0.branch [
      | else-word-gt0-via-then-word-gt0+else-is_digit w ↦ sym w.is_digit.ensures ∙ w.if-is_digit.false
      | else-word-gt0-via-else-word-gt0 w ↦ rw (get_or-eq_default c.args.word.now 0 {n = 0} (omega (arith, w.if-word-gt0.false)))
    ] in
    rw d (nothing c.args.w.now)
