-- Which kinds of fact bear on what, by computing.
-- Assumes nothing.
use mathlib.Core.Path.{refl}
use Rattle.kinds.specs.Kinds.{day_kinds, hour_kinds}
use Rattle.judge.specs.Engines.{month_kinds}
use Rattle.demands.specs.Bearing.{Bearing}

pub bearing : Bearing
unfolding day_kinds hour_kinds month_kinds
bearing = record { day = refl; hour = refl; month = refl; minute_is = refl; second_is = refl; zone_offset_is = refl }
