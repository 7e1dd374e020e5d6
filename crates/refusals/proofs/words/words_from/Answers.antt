-- `refusals::words::words_from` meets its contract. Assumes nothing.
use mathlib.Core.Path.{◌≡◌, sym, ◌∙◌}
use native.Mathlib.Omega.{arith}
use Rattle.std.specs.List.{count_by}
use Rattle.std.proofs.Common.{rules}
use Rattle.matching.specs.Extents.{nowhere}
use Rattle.refusals.specs.Words.{begins_from, words_from}
use Rattle.refusals.proofs.Over.{tally_is}
use Rattle.refusals.proofs.words.words_from.Goals as goal

pub returns : goal.returns
unfolding words_from
returns c =
    let p : c.count.result ≡ count_by (λ x. begins_from x c.args.offset) c.args.words.now = search rules in
    p ∙ sym (tally_is (λ x. begins_from x c.args.offset) c.args.words.now nowhere (omega arith))
