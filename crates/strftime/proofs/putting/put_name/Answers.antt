-- `strftime::putting::put_name` meets its contract.
use mathlib.Core.Path.{refl}
use Rattle.names.specs.Naming.{name_for}
use Rattle.converted.proofs.Lengths.{named}
use Rattle.strftime.proofs.Parts.{puts_name}
use Rattle.strftime.proofs.putting.put_name.Goals as goal

pub returns : goal.returns
returns c =
    let n = named c.args.t c.args.value c.place_for.ensures in
    puts_name _ _ c.args.case (name_for c.args.t c.args.value) c.requires.n_bound refl (rw n at c.write_name.ensures.out_after)
