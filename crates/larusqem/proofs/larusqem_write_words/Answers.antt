-- `larusqem::larusqem_write_words` meets its contract: the writer's answer, whose place fits 32 bits.
use mathlib.Core.Path.{ap, ◌∙◌}
use Rattle.strftime.proofs.Places.{elements_place}
use Rattle.larusqem.specs.Packed.{packed_writing}
use Rattle.larusqem.proofs.larusqem_write_words.Goals as goal

pub packed_writing-requires : goal.packed_writing-requires
packed_writing-requires c = rw (c.writing_of.ensures, c.write_elements.ensures.result_value) (elements_place _ _ _)

pub returns : goal.returns
returns c =
    let t = c.fields_of.ensures in
    let w = rw t at c.write_elements.ensures in
    record { value = c.packed_writing.ensures ∙ ap packed_writing (c.writing_of.ensures ∙ w.result_value); out_after = w.out_after }
