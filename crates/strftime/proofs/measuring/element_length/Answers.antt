-- `strftime::measuring::element_length` meets its contract.
use mathlib.Core.Path.{sym, ap, ◌∙◌}
use native.Mathlib.Omega.{arith}
use lib.ListN.{length}
use Rattle.strftime.proofs.Lengths.{element_byte, element_plain, element_styled, has_room}
use Rattle.strftime.proofs.measuring.element_length.Goals as goal

pub returns-then-e-lt256 : goal.returns-then-e-lt256
returns-then-e-lt256 c = rw (element_byte c.args.valid.moment c.args.e (omega arith))

pub converted_length-requires : goal.converted_length-requires
converted_length-requires c = rw c.conversion_of-c.ensures (has_room c.args.valid.moment c.args.valid.valid _)

pub returns-then-e-lt-PLAIN : goal.returns-then-e-lt-PLAIN
returns-then-e-lt-PLAIN c =
    c.converted_length.ensures ∙ ap length (sym (element_plain _ _ (omega arith) c.conversion_of-c.ensures (omega arith)))

pub returns : goal.returns
returns c =
    c.styled_length.ensures ∙ ap length (sym (element_styled _ _ (omega arith) c.conversion_of-c.ensures c.style_of.ensures))
