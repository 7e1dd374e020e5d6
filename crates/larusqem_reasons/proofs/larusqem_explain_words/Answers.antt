-- `larusqem_reasons::larusqem_explain_words` meets its contract. Assumes nothing.
use mathlib.Core.Path.{◌∙◌}
use Rattle.reasons.proofs.Places.{explained_fits}
use Rattle.larusqem_reasons.proofs.larusqem_explain_words.Goals as goal

pub reason_words-requires : goal.reason_words-requires
reason_words-requires c = rw (c.explain_by_format.ensures, c.strptime-answer.ensures) (λ k. explained_fits _ _ _ k)

pub returns : goal.returns
returns c = c.reason_words.ensures ∙ rw (c.explain_by_format.ensures, c.strptime-answer.ensures)
