use Rattle.std.proofs.Common.{◌≡◌, ◌+◌, ◌-◌}
use Rattle.agreement.specs.Agreement.{all_agree}
use Rattle.laws.specs.Lists.{range}
use Rattle.values.specs.Values.{date_value}
use Rattle.judge.proofs.testing.date_kinds_agree.Given as goal

abbrev pub invariant-loop-kind : goal.invariant-loop-kind
invariant-loop-kind l =
    all_agree l.facts (range l.kind (l.to + 1 - l.kind)) (λ k. date_value k l.date)
    ≡ all_agree l.facts (range l.from (l.to + 1 - l.from)) (λ k. date_value k l.date)
