-- `refusals::blocks::put_text` meets its contract. Assumes nothing.
use mathlib.Core.Path.{◌≡◌, sym, ap, ◌∙◌}
use lib.ListN.{length, take}
use Rattle.lists.specs.Answers.{opened_reading, opened_elements}
use Rattle.lists.proofs.Figures.{place_fits}
use Rattle.lists.proofs.Formats.{elements_first}
use Rattle.lists.proofs.Writing.{nothing}
use Rattle.reasons.proofs.Places.{explained_inside}
use Rattle.refusals.specs.Blocks.{block, opened_block}
use Rattle.strptime.specs.Answers.{reading_of, refusal_of}
use Rattle.refusals.proofs.Answers.{is_done}
use Rattle.refusals.proofs.blocks.put_text.Goals as goal
use Rattle.refusals.proofs.blocks.put_text.Goals.{After-elements_of-count, In-Err}

-- the first entries are the elements
first-ones : (c : After-elements_of-count) → let a = c.args in
    take c.elements_of-count.result a.elements.now ≡ opened_elements a.opened a.elements.now
first-ones c = rw c.elements_of-count.ensures (elements_first _ _)

pub slice_bounds-explain-end : goal.slice_bounds-explain-end
slice_bounds-explain-end c = c.elements_of-count.ensures ∙ ap length (sym (first-ones c))

-- the refusal is that of the reading
refusal-is : (c : In-Err) → let a = c.args in
    refusal_of c.in-Err.refusal ≡ opened_reading a.opened a.elements.now a.text.now
unfolding reading_of
refusal-is c = rw c.in-Err.is at c.answer_to-answer.ensures

pub invariant_of-put_block : goal.invariant_of-put_block
invariant_of-put_block c =
    let a = c.args in
    record {
      place_fits = rw (refusal-is (goal.at.invariant_of-put_block c).In-Err) (place_fits a.opened a.elements.now a.text.now);
      all_inside = λ k. rw c.explain.ensures (explained_inside _ _ a.text.now k).1;
    }

pub returns-in_default : goal.returns-in_default
unfolding opened_block block
returns-in_default c =
    rw (← c.answer_to-answer.ensures, is_done c.answer_to-answer.result c.in_default.not-Err) (nothing c.args.w.now)

pub returns : goal.returns
unfolding opened_block reading_of
returns c =
    let k = goal.at.returns c in
    rw (← refusal-is k.In-Err, ← first-ones k.After-elements_of-count) (rw c.explain.ensures at c.put_block.ensures)
