-- `larusqem_reasons::extent_words` meets its contract. Assumes nothing.
use mathlib.Core.Path.{refl, sym, ◌∙◌}
use native.Mathlib.Omega.{arith}
use Rattle.laws.specs.Lists.{range}
use Rattle.matching.specs.Extents.{nowhere}
use Rattle.larusqem_reasons.specs.Reasons.{extent_words}
use Rattle.larusqem_reasons.proofs.Extents.{tell_more, tell_done}
use Rattle.larusqem_reasons.proofs.extent_words.Goals as goal

pub loop-kind-init : goal.loop-kind-init
unfolding range extent_words
loop-kind-init c = refl

pub overflow_cast-words : goal.overflow_cast-words
unfolding nowhere
overflow_cast-words c = record { fits = (c.requires c.loop-kind.kind).0 }

pub overflow_cast-words-in-loop-kind : goal.overflow_cast-words-in-loop-kind
unfolding nowhere
overflow_cast-words-in-loop-kind c = record { fits = (c.requires c.loop-kind.kind).1 }

pub loop-kind-preserved : goal.loop-kind-preserved
unfolding nowhere
loop-kind-preserved c =
    let l = c.loop-kind in
    tell_more c.args.extents l.words l.kind (omega arith) ∙ l.invariant

pub returns : goal.returns
returns c =
    let l = c.loop-kind in
    sym (tell_done c.args.extents l.words l.kind (omega arith)) ∙ l.invariant
