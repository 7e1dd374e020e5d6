-- `strptime::answers::date_at` meets its contract. Assumes nothing.
use native.Mathlib.Omega.{arith}
use Rattle.calendar.proofs.Dates.{number_day}
use Rattle.strptime.proofs.answers.date_at.Goals as goal

pub returns : goal.returns
returns c = rw (c.unwrap_or.ensures, c.from_day_number.ensures, number_day c.args.number (omega arith) (omega arith))
