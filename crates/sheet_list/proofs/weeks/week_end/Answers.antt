-- `sheet_list::weeks::week_end` meets its contract. Assumes nothing.
use Rattle.std.proofs.Common.{rules, tests, arith, leb, drop, ap, ◌+◌, ◌∙◌, ◌≡◌, get_or}
use Rattle.std.proofs.lemmas.Iterator.{YieldsList-from_slice}
use Rattle.std.proofs.lemmas.Iterator.Search.{position_from_yields_List}
use Rattle.std.proofs.lemmas.List.{take_all, length-drop}
use Rattle.std.specs.List.{position}
use Rattle.sheets.specs.Sheets.{next_week}
use Rattle.sheet_list.proofs.Runs.{run_found, run_whole}
use Rattle.sheet_list.proofs.weeks.week_end.Goals.{After-position}
use Rattle.sheet_list.proofs.weeks.week_end.Goals as goal

-- what `position` gives: of the words from `from` on, which all of the part are
found : (c : After-position)
    → c.position.result ≡ position (λ x. leb (next_week (get_or c.args.words.now c.args.from 0)) x) (drop c.args.from c.args.words.now)
found c =
    let w = c.args.words.now in
    let later = next_week (get_or w c.args.from 0) in
    let part = take_all _ (drop c.args.from w) (omega (arith, length-drop c.args.from w)) in
    position_from_yields_List (λ x. leb later x) _ _ _ c.position.ensures.ran
    (YieldsList-from_slice (drop c.args.from w) (c.iter.ensures.rest ∙ part)) (λ x b q k. search (rules, tests))

pub returns-in-Some : goal.returns-in-Some
returns-in-Some c =
    let p = found (goal.at.returns-in-Some c).After-position in
    ap (λ n. c.args.from + n) (run_found c.args.words.now c.requires.1 c.args.from c.requires.0 p _ c.in-Some.is)

pub returns-in-None : goal.returns-in-None
returns-in-None c =
    let p = found (goal.at.returns-in-None c).After-position in
    run_whole c.args.words.now c.requires.1 c.args.from c.requires.0 p c.in-None.is
