use mathlib.Core.Path.{◌≡◌}
use mathlib.Core.List.{map}
use lib.ListN.{drop}
use Rattle.names.specs.Names.{first_form}
use Rattle.names.specs.Rows.{form_of}
use Rattle.names.proofs.names.first_middle.Given as goal

abbrev pub invariant-loop-m : goal.invariant-loop-m
invariant-loop-m l = first_form (map form_of (drop l.m-index l.middles)) l.s ≡ first_form (map form_of l.middles) l.s
