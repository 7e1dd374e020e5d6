-- `larusqem::larusqem_strptime_words` meets its contract: the reader's answer, whose place fits 32 bits.
use mathlib.Core.Path.{ap, ◌∙◌}
use native.Mathlib.Omega.{arith}
use Rattle.strptime.proofs.Places.{place_fits}
use Rattle.larusqem.specs.Packed.{packed_reading}
use Rattle.larusqem.specs.Words.{words_of}
use Rattle.larusqem.proofs.Ways.{budget_fits}
use Rattle.larusqem.proofs.larusqem_strptime_words.Goals as goal

pub tell-requires : goal.tell-requires
tell-requires c =
    let d = c in
    rw (c.strptime.ensures, d.engine_of.ensures) (place_fits _ (budget_fits _ _ (omega arith)) _ _)

pub returns : goal.returns
returns c =
    let r = rw c.engine_of.ensures at c.strptime.ensures in
    record { value = c.tell.ensures.value ∙ ap packed_reading r; words_after = c.tell.ensures.words_after ∙ ap words_of r }
