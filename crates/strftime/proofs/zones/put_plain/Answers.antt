-- `strftime::zones::put_plain` meets its contract.
use Rattle.text.proofs.Fill.{plain_places}
use Rattle.strftime.proofs.zones.put_plain.Goals as goal

pub returns : goal.returns
returns c =
    rw (c.digit_count.ensures, plain_places) at c.put_number.ensures
