-- `sheets::pack` meets its contract. Assumes nothing.
use Rattle.std.proofs.Common.{arith, Err, ◌≡◌}
use Rattle.std.proofs.lemmas.Grind.{common_steps}
use Rattle.sheets.proofs.Sheets.{judged_bad, judged_valid}
use Rattle.sheets.specs.Sheets.{is_valid, packing, dated, packing_of}
use Rattle.sheets.specs.declared.Unpackable.TheVariants.{Bad}
use Rattle.sheets.proofs.pack.Goals as goal

pub word_of-requires : goal.word_of-requires
unfolding is_valid
word_of-requires c =
    let s = c.args.fields in
    let t = c.in-Some.date in
    let j = judged_valid t.year t.month t.day s.hour s.minute s.second s.offset
    c.number_or_0.ensures c.number_or_0-2.ensures c.number_or_0-3.ensures
    c.from_fields.ensures c.in_ok-moment.was in
    rw (← j.1) j.0

pub returns-in_default : goal.returns-in_default
unfolding packing dated
returns-in_default c = rw c.in_default.is

pub returns-in_err-moment : goal.returns-in_err-moment
unfolding packing dated packing_of
returns-in_err-moment c =
    let s = c.args.fields in
    let t = c.in-Some.date in
    let j = judged_bad t.year t.month t.day s.hour s.minute s.second s.offset
    c.number_or_0.ensures c.number_or_0-2.ensures c.number_or_0-3.ensures
    c.from_fields.ensures c.in_err-moment.was in
    let e : c.from_residual.result ≡ Err (Bad c.in_err-moment.field-0.0) = grind (arith, common_steps) in
    rw (c.in-Some.is, j.0, j.1) e

pub returns : goal.returns
unfolding packing dated packing_of
returns c =
    let s = c.args.fields in
    let t = c.in-Some.date in
    let j = judged_valid t.year t.month t.day s.hour s.minute s.second s.offset
    c.number_or_0.ensures c.number_or_0-2.ensures c.number_or_0-3.ensures
    c.from_fields.ensures c.in_ok-moment.was in
    rw (c.in-Some.is, j.0, j.1, c.word_of.ensures)
