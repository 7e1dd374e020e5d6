-- `strftime::write_any` meets its contract: 12, or what is put.
use Rattle.strftime.proofs.Lengths.{text_any}
use Rattle.strftime.proofs.Order.{no_offset, lacks_nothing}
use Rattle.strftime.proofs.write_any.Goals as goal

pub write_opened-requires-clause-most_bound : goal.write_opened-requires-clause-most_bound
write_opened-requires-clause-most_bound c = text_any c.args.valid.moment c.args.valid.valid c.args.elements.now

pub returns-in-None : goal.returns-in-None
returns-in-None c = lacks_nothing _ _ _ c.lacking.ensures c.in-None.is c.write_opened.ensures

pub returns-in-Some : goal.returns-in-Some
returns-in-Some c = no_offset _ c.args.out.now _ c.lacking.ensures c.in-Some.is
