-- `larusqem::fields_of` meets its contract.
use Rattle.larusqem.proofs.fields_of.Goals as goal

pub returns : goal.returns
returns c = rw c.offset_from.ensures
