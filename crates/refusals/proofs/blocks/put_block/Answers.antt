-- `refusals::blocks::put_block` meets its contract. Assumes nothing.
use Rattle.laws.specs.Bytes.{bytes}
use Rattle.lists.proofs.Writing.{then}
use Rattle.refusals.specs.Blocks.{block}
use Rattle.refusals.proofs.Answers.{not_done}
use Rattle.refusals.proofs.blocks.put_block.Goals as goal

-- one after the other
pub returns : goal.returns
unfolding block bytes
returns c =
    rw (not_done c.args.refused.now.refusal)
    (then c.put_shown.ensures
    (then c.byte.ensures
    (then c.put_marked.ensures
    (then c.bytes.ensures (then c.plain.ensures (then c.bytes-2.ensures (then c.put_sentence.ensures c.bytes-3.ensures)))))))
