-- `strftime::putting::put_element` meets its contract.
use mathlib.Core.Path.{refl, ap}
use native.Mathlib.Omega.{arith}
use lib.ListN.{length}
use Rattle.strftime.proofs.Lengths.{element_byte, element_plain, element_styled, has_room}
use Rattle.strftime.proofs.putting.put_element.Goals as goal

pub bounds-out-at : goal.bounds-out-at
bounds-out-at c =
    omega (arith, c.requires, ap length (element_byte c.args.valid.moment c.args.e (omega arith)))

pub returns-then-e-lt256 : goal.returns-then-e-lt256
returns-then-e-lt256 c =
    rw (element_byte c.args.valid.moment c.args.e (omega arith)) record { ends = refl; stores = refl }

pub put_converted-requires : goal.put_converted-requires
put_converted-requires c =
    record {
      moment_in_bounds = rw (element_plain _ _ (omega arith) c.conversion_of-c.ensures (omega arith)) at c.requires;
      has_room = rw c.conversion_of-c.ensures (has_room c.args.valid.moment c.args.valid.valid _);
    }

pub returns-then-e-lt-PLAIN : goal.returns-then-e-lt-PLAIN
returns-then-e-lt-PLAIN c =
    rw (element_plain _ _ (omega arith) c.conversion_of-c.ensures (omega arith)) c.put_converted.ensures

pub put_styled-requires : goal.put_styled-requires
put_styled-requires c =
    rw (element_styled _ _ (omega arith) c.conversion_of-c.ensures c.style_of.ensures) at c.requires

pub returns : goal.returns
returns c = rw (element_styled _ _ (omega arith) c.conversion_of-c.ensures c.style_of.ensures) c.put_styled.ensures
