-- `refusals::sentences::put_part` meets its contract. Assumes nothing.
use Rattle.laws.specs.Bytes.{bytes}
use Rattle.refusals.specs.Sentences.{part_name}
use Rattle.refusals.proofs.sentences.put_part.Goals as goal

pub returns-in-Year : goal.returns-in-Year
unfolding part_name bytes
returns-in-Year c = rw c.in-Year.is c.bytes.ensures

pub returns-in-Month : goal.returns-in-Month
unfolding part_name bytes
returns-in-Month c = rw c.in-Month.is c.bytes-in-Month.ensures

pub returns-in-Day : goal.returns-in-Day
unfolding part_name bytes
returns-in-Day c = rw c.in-Day.is c.bytes-in-Day.ensures
