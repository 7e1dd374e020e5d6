-- `lists::lines::line_end` meets its contract. Assumes nothing.
use Prim.Native.Nat.{ℕ, ◌+◌}
use mathlib.Core.Path.{ap, ◌∙◌}
use Rattle.lists.specs.Lines.{line_length}
use Rattle.lists.proofs.Splitting.{found, rest_is}
use Rattle.lists.proofs.lines.line_end.Goals as goal

pub returns : goal.returns
returns c =
    let p = c.newline.ensures in
    let e = c.unwrap_or.ensures in
    ap (λ (n : ℕ). c.args.from + n) (rw (p, c.min.ensures) at e ∙ found _ ∙ ap line_length (rest_is c.args.s.now c.args.from))
