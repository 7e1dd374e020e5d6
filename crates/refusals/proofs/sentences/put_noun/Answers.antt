-- `refusals::sentences::put_noun` meets its contract. Assumes nothing.
use Rattle.laws.specs.Bytes.{bytes}
use Rattle.refusals.specs.Sentences.{noun}
use Rattle.refusals.proofs.sentences.put_noun.Goals as goal

pub returns-in-Day : goal.returns-in-Day
unfolding noun bytes
returns-in-Day c = rw c.in-Day.is c.bytes.ensures

pub returns-in-Hour : goal.returns-in-Hour
unfolding noun bytes
returns-in-Hour c = rw c.in-Hour.is c.bytes-in-Hour.ensures
