-- `judge::skipping::search_days` meets its contract. Assumes nothing.
use mathlib.Core.Bool.{false}
use mathlib.Core.Path.{◌≡◌, sym, ap, ◌∙◌}
use Rattle.calendar.specs.Calendar.{days}
use Rattle.agreement.specs.Verdicts.{days_found}
use Rattle.judge.specs.Private.{named, repeated_found}
use Rattle.judge.proofs.Cycle.{first_small, repeats}
use Rattle.judge.proofs.skipping.search_days.Goals as goal

pub search_date-requires : goal.search_date-requires
search_date-requires c = sym c.date_said.ensures ∙ c.if-date_said.true

pub returns-then-named : goal.returns-then-named
unfolding days_found days
returns-then-named c = c.search_years.ensures

pub repeated-requires : goal.repeated-requires
repeated-requires c = rw c.search_years-2.ensures (first_small c.args.facts)

pub returns : goal.returns
returns c =
    let f = c.args.facts in
    let unnamed : named f ≡ false = sym c.named.ensures ∙ c.if-named.false in
    c.repeated.ensures ∙ ap repeated_found c.search_years-2.ensures ∙ repeats f unnamed
