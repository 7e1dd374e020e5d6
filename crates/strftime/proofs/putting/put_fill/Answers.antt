-- `strftime::putting::put_fill` meets its contract.
use native.Mathlib.Omega.{arith}
use Rattle.strftime.proofs.Parts.{puts_fill}
use Rattle.strftime.proofs.putting.put_fill.Goals as goal

pub returns : goal.returns
returns c = puts_fill _ _ _ _ (omega arith) c.requires (c.fill.ensures.after (λ y e. e))
