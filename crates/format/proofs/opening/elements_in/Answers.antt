-- `format::opening::elements_in` meets its contract: the loop ends before the first entry that is no element, or with those looked at.
use Rattle.std.proofs.Common.{◌≡◌, ◌∙◌, ◌<◌, length, take, min, sym, arith}
use Rattle.std.proofs.lemmas.List.{length-take, get_or-take}
use Rattle.format.specs.Opening.{most_elements}
use Rattle.format.proofs.Entries.{ends_before, ends_with}
use Rattle.format.proofs.opening.elements_in.Goals as goal

pub returns-then-not-is_element : goal.returns-then-not-is_element
returns-then-not-is_element c =
    let es = c.args.elements.now in
    let seen = length-take c.min.result es in
    let in_seen : c.loop-k.k < c.min.result = omega (arith, seen) in
    ends_before c.args.side most_elements es c.loop-k.k (omega (arith, seen, c.min.ensures)) (omega (arith, seen))
    c.loop-k.invariant
    (rw get_or-take at (sym c.is_element.ensures ∙ c.if-not-is_element.true))

pub returns : goal.returns
returns c =
    let es = c.args.elements.now in
    let seen = length-take c.min.result es in
    let all : length (take c.min.result es) ≡ min (length es) most_elements = omega (arith, seen, c.min.ensures) in
    all ∙ ends_with c.args.side most_elements es (λ j l. c.loop-k.invariant j (omega (arith, all)))
