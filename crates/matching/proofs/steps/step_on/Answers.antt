-- `matching::steps::step_on` meets its contract. Assumes nothing.
use mathlib.Core.Path.{refl}
use native.Mathlib.Omega.{arith}
use Rattle.matching.specs.Steps.{met}
use Rattle.matching.proofs.Sound.{fact_told}
use Rattle.matching.proofs.Told.{Told, told_small}
use Rattle.matching.proofs.Walk.{on_skip, on_refused, on_conflict, on_fact}
use Rattle.matching.proofs.steps.step_on.Goals as goal
use Rattle.matching.proofs.steps.step_on.Goals.{In-Ok-Fact}

-- the fact that was read
said : (c : In-Ok-Fact) → Told c.in-Ok-Fact.kind c.in-Ok-Fact.number
said c =
    let d = c in
    let a = d.args in
    fact_told a.s.now a.at (omega arith) a.element d.read_element.ensures (rw d.in-Ok-Fact.field-0-is at d.in-Ok-Fact.is)

pub bounds-said-kind : goal.bounds-said-kind
bounds-said-kind c = omega (arith, said (goal.at.bounds-said-kind c).In-Ok-Fact)

pub conflicts-requires : goal.conflicts-requires
conflicts-requires c = told_small _ _ (said (goal.at.conflicts-requires c).In-Ok-Fact)

pub returns-then-conflicts : goal.returns-then-conflicts
returns-then-conflicts c =
    let d = c in
    on_conflict _ _ _ _ d.read_element.ensures (rw d.in-Ok-Fact.field-0-is at d.in-Ok-Fact.is) c.conflicts.ensures c.if-conflicts.true

pub overflow_add-said : goal.overflow_add-said
overflow_add-said c = omega (arith, told_small _ _ (said (goal.at.overflow_add-said c).In-Ok-Fact))

pub bounds-said-kind-in-Ok-Fact : goal.bounds-said-kind-in-Ok-Fact
bounds-said-kind-in-Ok-Fact c = omega (arith, said (goal.at.bounds-said-kind-in-Ok-Fact c).In-Ok-Fact)

pub returns-in-Ok-Skip : goal.returns-in-Ok-Skip
returns-in-Ok-Skip c = on_skip _ _ _ _ c.read_element.ensures (rw c.in-Ok-Skip.field-0-is at c.in-Ok-Skip.is)

pub returns-else-conflicts : goal.returns-else-conflicts
unfolding met
returns-else-conflicts c =
    let f = c in
    let d = c in
    on_fact _ _ _ _ d.read_element.ensures (rw d.in-Ok-Fact.field-0-is at d.in-Ok-Fact.is) f.conflicts.ensures c.if-conflicts.false
    (rw (c.latest.ensures, c.latest-in-Ok-Fact.ensures) refl)

pub returns-in-Err : goal.returns-in-Err
returns-in-Err c = on_refused _ _ _ _ c.read_element.ensures c.in-Err.is
