-- `agreement::agreement::hour_agrees` meets its contract. Assumes nothing.
use Rattle.std.proofs.Common.{rules, tests, refl, ◌∙◌}
use Rattle.std.proofs.lemmas.Iterator.{YieldsList-from_range}
use Rattle.std.proofs.lemmas.Iterator.Search.{all_from_yields_List}
use Rattle.kinds.specs.Kinds.{hour_kinds}
use Rattle.laws.specs.Lists.{range}
use Rattle.values.specs.Values.{hour_value}
use Rattle.agreement.specs.Agreement.{said, agrees, hour_agrees}
use Rattle.agreement.proofs.Every.{every_all}
use Rattle.agreement.proofs.agreement.hour_agrees.Goals as goal

pub returns : goal.returns
unfolding hour_agrees hour_kinds range
returns c =
    all_from_yields_List (λ k. agrees (said c.args.facts k) (hour_value k c.args.hour)) _ _ _
    c.all.ensures.ran (YieldsList-from_range 13 16 3 (cc) refl) (λ x b q k. search (rules, tests))
    ∙ every_all _ 13 3
