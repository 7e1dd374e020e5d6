-- `larusqem_reasons::larusqem_explain_read_words` meets its contract. Assumes nothing.
use mathlib.Core.Path.{◌∙◌}
use Rattle.reasons.proofs.Places.{elements_explained_fits}
use Rattle.larusqem_reasons.proofs.larusqem_explain_read_words.Goals as goal

pub reason_words-requires : goal.reason_words-requires
reason_words-requires c = rw (c.explain.ensures, c.read_elements-answer.ensures) (λ k. elements_explained_fits _ _ _ k)

pub returns : goal.returns
returns c = c.reason_words.ensures ∙ rw (c.explain.ensures, c.read_elements-answer.ensures)
