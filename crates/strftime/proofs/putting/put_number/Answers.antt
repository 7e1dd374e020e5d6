-- `strftime::putting::put_number` meets its contract.
use mathlib.Core.Path.{refl}
use Rattle.strftime.proofs.Parts.{puts_number}
use Rattle.strftime.proofs.putting.put_number.Goals as goal

pub returns : goal.returns
returns c = puts_number _ _ _ _ refl c.requires _ c.write_number.ensures
