-- The kinds of fact by their numbers (RULES 7): which bear on the day and which on the hour, and by which the skipping engine counts (RULES
-- 8.4). Demand 3 and the counts speak of these lists by name; this says what is in them.
use Rattle.std.specs.Prelude.{[], ◌∷◌, ◌≡◌}
use Rattle.kinds.specs.Kinds.{day_kinds, hour_kinds, minute, second, zone_offset}
use Rattle.judge.specs.Engines.{month_kinds}

pub record Bearing : Type 0 where
  pub day : day_kinds ≡ 1 ∷ 2 ∷ 3 ∷ 4 ∷ 5 ∷ 6 ∷ 7 ∷ 8 ∷ 9 ∷ 10 ∷ 11 ∷ 12 ∷ []
  pub hour : hour_kinds ≡ 13 ∷ 14 ∷ 15 ∷ []
  pub month : month_kinds ≡ 1 ∷ 2 ∷ 3 ∷ 4 ∷ []
  pub minute_is : minute ≡ 16
  pub second_is : second ≡ 17
  pub zone_offset_is : zone_offset ≡ 18
