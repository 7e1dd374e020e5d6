-- `refusals::words::put_word_list` meets its contract. Assumes nothing.
use mathlib.Core.Path.{◌≡◌}
use native.Mathlib.Omega.{arith}
use lib.ListN.{length}
use Rattle.lists.proofs.Writing.{each_start, each_next}
use Rattle.refusals.specs.Words.{word_list}
use Rattle.refusals.proofs.words.put_word_list.Goals as goal

pub loop-offset-init : goal.loop-offset-init
loop-offset-init c = each_start _ c.args.w.now

pub loop-offset-preserved : goal.loop-offset-preserved
loop-offset-preserved c = each_next _ c.loop-offset.offset c.loop-offset.invariant c.put_words_at.ensures

pub returns : goal.returns
unfolding word_list
returns c =
    let e : c.loop-offset.offset ≡ length c.args.refused.now.text.now = omega arith in
    rw e at c.loop-offset.invariant
