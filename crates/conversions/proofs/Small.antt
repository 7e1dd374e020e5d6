-- The rows of the conversions are small: one computed test.
-- Assumes nothing.
use Prim.Native.Nat.{ℕ, ◌≤◌, ◌<◌}
use mathlib.Core.Bool.{Bool, ◌&&◌}
use lib.Dec.{leb, ltb, leb→le, ltb→lt}
use Rattle.laws.specs.Lists.{every}
use Rattle.laws.proofs.Table.{both}
use Rattle.kinds.specs.Kinds.{kinds}
use Rattle.conversions.specs.Conversions.{conversion_of, computes}
use Rattle.conversions.specs.declared.conversions.Conversion.{Conversion}
use Rattle.conversions.proofs.Rows.{conversion_passes}

abbrev small : Conversion → Bool
small c = leb c.width 9 && (ltb c.kind kinds && ltb c.high 100000)

pub record Small (c : Conversion) : Type 0 where
  pub width : c.width ≤ 9
  pub kind : c.kind < kinds
  pub high : c.high < 100000

pub conversion_small : (c : ℕ) → Small (conversion_of c)
conversion_small c =
    let r = conversion_of c in
    let t = both (leb r.width 9) (ltb r.kind kinds && ltb r.high 100000)
    (conversion_passes small c (unfold computes every in tt) (unfold computes in tt)) in
    let u = both (ltb r.kind kinds) (ltb r.high 100000) t.1 in
    record { width = leb→le r.width 9 t.0; kind = ltb→lt r.kind kinds u.0; high = ltb→lt r.high 100000 u.1 }
