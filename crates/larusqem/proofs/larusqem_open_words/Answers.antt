-- `larusqem::larusqem_open_words` meets its contract: by cases of what the opening answers; every place fits 32 bits.
use native.Mathlib.Omega.{arith}
use Rattle.format.proofs.Openings.{opened_done, opened_bad}
use Rattle.larusqem.proofs.Ways.{all_fit, too_many, too_long_lem, bad_conversion_lem}
use Rattle.larusqem.proofs.larusqem_open_words.Goals as goal

pub packed-requires : goal.packed-requires
packed-requires c =
    let o = c.open.ensures in
    omega (arith, (opened_done _ _ o.value c.in-Ok.is).few)

pub returns-then-elements-count : goal.returns-then-elements-count
returns-then-elements-count c =
    let o = c in
    let e = o.open.ensures in
    rw (← o.side_of.ensures)
    (record { value = too_many _ _ _ e.value c.in-Ok.is (omega arith) c.packed.ensures; elements_after = e.out_after })

pub packed-requires-in-Ok : goal.packed-requires-in-Ok
packed-requires-in-Ok c =
    let o = c.open.ensures in
    omega (arith, (opened_done _ _ o.value c.in-Ok.is).few)

pub packed-requires-in-Err-Bad : goal.packed-requires-in-Err-Bad
packed-requires-in-Err-Bad c =
    let o = c.open.ensures in
    let w = opened_bad _ _ o.value (rw c.in-Err-Bad.field-0-is at c.in-Err-Bad.is) in
    omega (arith, w.short, w.within)

pub returns-else-elements-count : goal.returns-else-elements-count
returns-else-elements-count c =
    let o = c in
    let e = o.open.ensures in
    rw (← o.side_of.ensures)
    (record { value = all_fit _ _ _ e.value c.in-Ok.is (omega arith) c.packed-in-Ok.ensures; elements_after = e.out_after })

pub returns-in-Err-TooLong : goal.returns-in-Err-TooLong
returns-in-Err-TooLong c =
    let o = c in
    let e = o.open.ensures in
    rw (← o.side_of.ensures)
    (record {
      value = too_long_lem _ _ _ e.value (rw c.in-Err-TooLong.field-0-is at c.in-Err-TooLong.is) c.packed-in-Err-TooLong.ensures;
      elements_after = e.out_after;
    })

pub returns-in-Err-Bad : goal.returns-in-Err-Bad
returns-in-Err-Bad c =
    let o = c in
    let e = o.open.ensures in
    rw (← o.side_of.ensures)
    (record {
      value = bad_conversion_lem _ _ _ e.value (rw c.in-Err-Bad.field-0-is at c.in-Err-Bad.is) c.packed-in-Err-Bad.ensures;
      elements_after = e.out_after;
    })
