-- `strptime::answers::read_elements` meets its contract. Assumes nothing.
use mathlib.Core.Path.{◌∙◌}
use Rattle.strptime.proofs.Opens.{entry_bad, entries_read}
use Rattle.strptime.proofs.answers.read_elements.Goals as goal

pub returns-then-good-elements : goal.returns-then-good-elements
returns-then-good-elements c =
    let d = c in
    c.bad_conversion.ensures ∙ entry_bad _ _ _ d.elements_in-good.ensures d.if-good-elements.true c.entry_place.ensures

pub returns : goal.returns
returns c = c.read_short.ensures ∙ entries_read _ _ _ c.elements_in-good.ensures c.if-good-elements.false
