-- `sheet_list::ascending::put_at` meets its contract. Assumes nothing.
use Rattle.sheet_list.proofs.Shifting.{put_is, in_two}
use Rattle.std.specs.List.{copy_within}
use lib.ListN.{set}
use mathlib.Core.List.{List}
use mathlib.Core.Path.{ap, ◌∙◌}
use native.Mathlib.Omega.{arith}
use Prim.Native.Nat.{ℕ, ◌+◌, ◌≤◌}
use Rattle.sheet_list.proofs.ascending.put_at.Goals.{then-count-eq0+then-at-count, else-count-eq0}
use Rattle.sheet_list.proofs.ascending.put_at.Goals as goal

pub returns : goal.returns
returns c =
    let a = c.args in
    let w = a.words.now in
    let f = c.if-count-eq0.from in
    let b : (a.at ≤ f) × (f ≤ a.count)
    = elim c.if-count-eq0.branch [
      | then-count-eq0+then-at-count w ↦ (omega arith, omega arith)
      | else-count-eq0 w ↦ (omega arith, omega arith)
    ] in
    let m = c.copy_within-2.ensures.after ∙ ap (λ (v : List ℕ). copy_within v a.at f (a.at + 1)) c.copy_within.ensures.after
    ∙ in_two w a.at f a.count b.0 b.1 c.requires.1 in
    ap (λ (v : List ℕ). set v a.at a.word) m ∙ put_is w a.at a.count a.word c.requires.0 c.requires.1
