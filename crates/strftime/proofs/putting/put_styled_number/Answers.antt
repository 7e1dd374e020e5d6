-- `strftime::putting::put_styled_number` meets its contract: the fill, then the digits.
use Rattle.strftime.proofs.Parts.{number_fill_room, number_room, puts_styled_number}
use Rattle.strftime.proofs.putting.put_styled_number.Goals as goal

pub put_fill-from-requires : goal.put_fill-from-requires
put_fill-from-requires c =
    number_fill_room _ _ c.args.width c.args.value c.args.out.now _ c.requires c.digit_count-n.ensures
    c.fill_by.ensures
    c.places_by.ensures

pub put_number-requires : goal.put_number-requires
put_number-requires c =
    number_room _ _ c.args.width c.args.value c.args.out.now _ c.requires c.digit_count-n.ensures
    c.fill_by.ensures
    c.places_by.ensures
    c.put_fill-from.ensures

pub returns : goal.returns
returns c =
    puts_styled_number _ _ c.args.width c.args.value c.args.out.now _ c.requires c.digit_count-n.ensures
    c.fill_by.ensures
    c.places_by.ensures
    c.put_fill-from.ensures
    c.put_number.ensures
