-- `strftime::putting::put_styled_name` meets its contract: the fill, then the letters.
use mathlib.Core.Path.{◌≡◌}
use native.Mathlib.Omega.{arith}
use lib.ListN.{length, take, length-take}
use Rattle.names.specs.Naming.{name_for}
use Rattle.strftime.proofs.Parts.{name_fill_room, name_room, puts_styled_name}
use Rattle.strftime.proofs.putting.put_styled_name.Goals as goal
use Rattle.strftime.proofs.putting.put_styled_name.Goals.{Start}

letters : (c : Start) → c.args.n ≡ length (take c.args.n (name_for c.args.t c.args.value))
letters c = rw length-take (omega (arith, c.requires.n_bound))

pub put_fill-from-requires : goal.put_fill-from-requires
put_fill-from-requires c =
    name_fill_room _ _ _ c.args.out.now _ c.requires.n_in_bounds (letters (goal.at.put_fill-from-requires c).Start)

pub put_name-requires-clause-n_in_bounds : goal.put_name-requires-clause-n_in_bounds
put_name-requires-clause-n_in_bounds c =
    let l = letters (goal.at.put_name-requires-clause-n_in_bounds c).Start in
    rw (← l) at (name_room _ _ _ c.args.out.now _ c.requires.n_in_bounds l c.put_fill-from.ensures)

pub returns : goal.returns
returns c =
    puts_styled_name _ _ _ c.args.out.now _ c.requires.n_in_bounds (letters (goal.at.returns c).Start) c.put_fill-from.ensures
    c.case_by.ensures
    c.put_name.ensures
