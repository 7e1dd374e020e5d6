use Prim.Native.Nat.{◌^◌, ◌<◌, min}
use mathlib.Core.Path.{◌≡◌}
use lib.ListN.{drop}
use Rattle.text.specs.Digits.{read_digits}
use Rattle.text.proofs.Decimals.{read_on}
use Rattle.text.proofs.digits.read_digits.Given as goal

abbrev pub invariant-loop-count : goal.invariant-loop-count
invariant-loop-count l = record {
  fits : l.value < 10 ^ l.count;
  reads : read_on l.value l.count (drop l.count l.b-items) ≡ read_digits (min l.width 9) (drop l.at l.s);
}
