-- `strftime::moment_of` meets its contract.
use Rattle.strftime.proofs.Order.{is_moment}
use Rattle.strftime.proofs.moment_of.Goals as goal

pub invariant_of-result : goal.invariant_of-result
invariant_of-result c = record { valid = is_moment c.args.t c.from_fields.ensures c.in_ok-moment.was }
