-- `strftime::write_elements` meets its contract: 2 and 3 are answered here.
use mathlib.Core.Path.{sym, ◌∙◌}
use native.Mathlib.Omega.{arith}
use Rattle.format.specs.Opening.{most_elements}
use Rattle.format.specs.declared.opening.Side.TheVariants.{Writer, Reader}
use Rattle.format.proofs.Entries.{counted_few, counted_all}
use Rattle.std.proofs.lemmas.Result.{err_from_is_err_and}
use Rattle.strftime.proofs.Lengths.{text_most}
use Rattle.strftime.proofs.Order.{bad_fields, bad_entry, plain_elements, all_elements}
use Rattle.strftime.proofs.write_elements.Goals as goal

pub write_opened-requires : goal.write_opened-requires
write_opened-requires c =
    let es = c.args.elements.now in
    let v = c.in_ok-valid.valid in
    let q = sym c.elements_in.ensures ∙ c.if-elements_in-elements.true in
    let long = text_most v.moment v.valid es (counted_all Reader most_elements es q) in
    record { elements_len_bound = omega (arith, counted_few Reader most_elements es, q); most_bound = omega (arith, long) }

pub overflow_mul-elements : goal.overflow_mul-elements
overflow_mul-elements c =
    let es = c.args.elements.now in
    omega (arith, counted_few Reader most_elements es, c.elements_in.ensures, c.if-elements_in-elements.true)

pub returns-then-elements_in-elements : goal.returns-then-elements_in-elements
returns-then-elements_in-elements c =
    let all = sym c.if-elements_in-elements.true ∙ c.elements_in.ensures in
    plain_elements _ _ _ c.in_ok-valid.ensures all c.write_opened.ensures

pub returns-then-good-elements : goal.returns-then-good-elements
returns-then-good-elements c = bad_entry _ _ _ c.in_ok-valid.ensures c.elements_in-good.ensures (omega arith)

pub write_any-requires : goal.write_any-requires
write_any-requires c = omega (arith, counted_few Writer most_elements c.args.elements.now, c.elements_in-good.ensures)

pub returns : goal.returns
returns c = all_elements _ _ _ c.in_ok-valid.ensures c.elements_in-good.ensures (omega arith) c.write_any.ensures

pub returns-in_err-valid : goal.returns-in_err-valid
returns-in_err-valid c =
    let p = err_from_is_err_and c.from_residual.result c.from_residual.ensures.1 in
    rw (p.1, p.2) (bad_fields _ _ _ c.in_err-valid.ensures)
