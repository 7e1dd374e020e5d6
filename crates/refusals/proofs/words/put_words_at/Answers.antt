-- `refusals::words::put_words_at` meets its contract. Assumes nothing.
use mathlib.Core.Path.{◌≡◌}
use native.Mathlib.Omega.{arith}
use Rattle.kinds.specs.Kinds.{kinds}
use Rattle.lists.proofs.Writing.{each_start, each_next}
use Rattle.refusals.proofs.words.put_words_at.Goals as goal

pub loop-kind-init : goal.loop-kind-init
loop-kind-init c = each_start _ c.args.w.now

pub loop-kind-preserved : goal.loop-kind-preserved
loop-kind-preserved c = each_next _ c.loop-kind.kind c.loop-kind.invariant c.put_phrase_at.ensures

pub returns : goal.returns
returns c =
    let e : c.loop-kind.kind ≡ kinds = omega arith in
    rw e at c.loop-kind.invariant
