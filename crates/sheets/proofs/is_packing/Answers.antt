-- `sheets::is_packing` meets its contract. Assumes nothing.
use Rattle.sheets.proofs.Testing.{to_hour, to_minute, to_second, to_offset, tested}
use Rattle.sheets.specs.Private.{is_date}
use mathlib.Core.Path.{◌≡◌, sym, ap, ◌∙◌}
use native.Mathlib.Omega.{arith}
use Rattle.sheets.proofs.is_packing.Goals.{Joined-is_field-3}
use Rattle.sheets.proofs.is_packing.Goals.{then-is_date, else-is_date, then-is_field, else-is_field}
use Rattle.sheets.proofs.is_packing.Goals.{then-is_field-2, else-is_field-2, then-is_field-3, else-is_field-3}
use Rattle.sheets.proofs.is_packing.Goals as goal

-- what the tests before the last give
before_last : (c : Joined-is_field-3) → c.if-is_field-3.value ≡ to_offset c.args.word
before_last c =
    let d = c.is_date.ensures ∙ ap is_date c.date_of.ensures in
    let h : c.if-is_date.value ≡ to_hour c.args.word
    = elim c.if-is_date.branch [
      | then-is_date w ↦ rw (sym d ∙ w.if-is_date.true) (w.value-is ∙ w.is_field.ensures)
      | else-is_date w ↦ rw (sym d ∙ w.if-is_date.false) (w.value-is ∙ w.if-is_date.false)
    ] in
    let n : c.if-is_field.value ≡ to_minute c.args.word
    = elim c.if-is_field.branch [
      | then-is_field w ↦ rw (sym h ∙ w.if-is_field.true) (w.value-is ∙ w.is_field-then-is_field.ensures)
      | else-is_field w ↦ rw (sym h ∙ w.if-is_field.false) (w.value-is ∙ w.if-is_field.false)
    ] in
    let s : c.if-is_field-2.value ≡ to_second c.args.word
    = elim c.if-is_field-2.branch [
      | then-is_field-2 w ↦ rw (sym n ∙ w.if-is_field-2.true) (w.value-is ∙ w.is_field-then-is_field-2.ensures)
      | else-is_field-2 w ↦ rw (sym n ∙ w.if-is_field-2.false) (w.value-is ∙ w.if-is_field-2.false)
    ] in
    elim c.if-is_field-3.branch [
      | then-is_field-3 w ↦ rw (sym s ∙ w.if-is_field-3.true) (w.value-is ∙ w.is_field-then-is_field-3.ensures)
      | else-is_field-3 w ↦ rw (sym s ∙ w.if-is_field-3.false) (w.value-is ∙ w.if-is_field-3.false)
    ]

pub returns-then-is_field-4 : goal.returns-then-is_field-4
returns-then-is_field-4 c =
    let b = before_last (goal.at.returns-then-is_field-4 c).Joined-is_field-3 in
    rw (sym b ∙ c.if-is_field-4.true) at (tested c.args.word (omega arith))

pub returns-else-is_field-4 : goal.returns-else-is_field-4
returns-else-is_field-4 c =
    let b = before_last (goal.at.returns-else-is_field-4 c).Joined-is_field-3 in
    c.if-is_field-4.false ∙ (rw (sym b ∙ c.if-is_field-4.false) at (tested c.args.word (omega arith)))
