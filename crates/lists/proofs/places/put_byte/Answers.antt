-- `lists::places::put_byte` meets its contract. Assumes nothing.
use Rattle.std.proofs.Common.{rules}
use Rattle.lists.proofs.Writing.{put_from}
use Rattle.lists.proofs.places.put_byte.Goals as goal

pub returns : goal.returns
returns c = put_from c.byte.ensures c.from_place-w.ensures.starts.0 c.from_place-w.ensures.starts.1 (search rules)
