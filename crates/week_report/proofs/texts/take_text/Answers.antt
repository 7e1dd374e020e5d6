-- `week_report::texts::take_text` meets its contract. Assumes nothing.
use Rattle.week_report.proofs.Gathering.{number_below, took_sheet, took_out}
use mathlib.Core.Path.{sym, ◌∙◌}
use native.Mathlib.Omega.{arith}
use Rattle.week_report.proofs.texts.take_text.Goals as goal

pub count_number-requires : goal.count_number-requires
count_number-requires c =
    let given = sym c.given_by.ensures ∙ c.in-Err.is in
    let p = c.requires in
    (omega (arith, number_below c.args.reading p.n_bound.1 given, p.counts_len.0), p.counts_len.1)

pub returns-in-Ok : goal.returns-in-Ok
returns-in-Ok c =
    let a = c.args in
    took_sheet a.words.now a.counts.now a.n (sym c.given_by.ensures ∙ c.in-Ok.is)

pub returns-in-Err : goal.returns-in-Err
returns-in-Err c =
    let a = c.args in
    took_out a.words.now a.counts.now a.n (sym c.given_by.ensures ∙ c.in-Err.is) c.count_number.ensures
