-- `judge::skipping::judge_skipping` meets its contract. Assumes nothing.
use Rattle.judge.specs.Engines.{last_examined, skipping_count}
use Rattle.judge.specs.Private.{skipping_judged}
use Rattle.agreement.proofs.Through.{last_in}
use Rattle.judge.proofs.skipping.judge_skipping.Goals as goal

pub month_days_through-requires : goal.month_days_through-requires
month_days_through-requires c = rw c.search_days-found.ensures (last_in _)

pub returns : goal.returns
unfolding skipping_judged skipping_count last_examined
returns c = rw (c.month_days_through.ensures, c.verdict_of.ensures, c.search_days-found.ensures)
