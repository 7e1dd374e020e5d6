-- `sheet_list::adding::add_word` meets its contract. Assumes nothing.
use Rattle.sheet_list.proofs.Steps.{word_unheld, word_full, word_added}
use Rattle.sheet_list.proofs.Holding.{sound}
use mathlib.Core.Path.{sym, ◌∙◌}
use borrow.Author.Tests.{not-true, not-false}
use native.Mathlib.Omega.{arith}
use Rattle.sheet_list.specs.Adding.{number_of, place_of}
use Rattle.sheet_list.proofs.adding.add_word.Goals as goal

pub returns-then-not-is_sound : goal.returns-then-not-is_sound
unfolding number_of place_of
returns-then-not-is_sound c = word_unheld _ _ _ (sym c.is_sound.ensures ∙ not-true _ c.if-not-is_sound.true-raw)

pub returns-then-is_full : goal.returns-then-is_full
unfolding number_of place_of
returns-then-is_full c =
    let e = c in
    word_full _ _ _ (sym e.is_sound.ensures ∙ not-false _ e.if-not-is_sound.false-raw) (sym c.is_full.ensures ∙ c.if-is_full.true)

pub overflow_add-result-2 : goal.overflow_add-result-2
overflow_add-result-2 c =
    let e = c in
    let v = sound _ (sym e.is_sound.ensures ∙ not-false _ e.if-not-is_sound.false-raw) in
    record { fits = omega (arith, v.within, v.short) }

pub returns : goal.returns
unfolding number_of place_of
returns c =
    let f = c in
    let e = c in
    word_added _ _ _
    (sym e.is_sound.ensures ∙ not-false _ e.if-not-is_sound.false-raw)
    (sym f.is_full.ensures ∙ f.if-is_full.false)
    c.put_word-weeks.ensures
