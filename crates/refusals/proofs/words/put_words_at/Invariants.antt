use Rattle.lists.specs.Putting.{Writes, each}
use Rattle.refusals.specs.Words.{phrase_at}
use Rattle.refusals.proofs.words.put_words_at.Given as goal

abbrev pub invariant-loop-kind : goal.invariant-loop-kind
invariant-loop-kind l = Writes (each (phrase_at l.refused.words l.refused.text.now l.offset) l.kind) l.initial.w l.w
