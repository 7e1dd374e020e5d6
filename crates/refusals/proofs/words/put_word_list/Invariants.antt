use Rattle.kinds.specs.Kinds.{kinds}
use Rattle.lists.specs.Putting.{Writes, each}
use Rattle.refusals.specs.Words.{phrase_at}
use Rattle.refusals.proofs.words.put_word_list.Given as goal

abbrev pub invariant-loop-offset : goal.invariant-loop-offset
invariant-loop-offset l = Writes (each (λ i. each (phrase_at l.refused.words l.refused.text.now i) kinds) l.offset) l.initial.w l.w
