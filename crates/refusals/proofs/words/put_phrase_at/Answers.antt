-- `refusals::words::put_phrase_at` meets its contract. Assumes nothing.
use Prim.Native.Nat.{◌<◌}
use mathlib.Core.Path.{sym, ◌∙◌}
use native.Mathlib.Omega.{arith}
use borrow.Author.Tests.{not-true, not-false}
use lib.ListN.{get_or}
use Rattle.matching.specs.Extents.{nowhere}
use Rattle.lists.proofs.Writing.{nothing, then}
use Rattle.refusals.specs.Words.{phrase_at}
use Rattle.refusals.proofs.Phrases.{some_words}
use Rattle.refusals.proofs.words.put_phrase_at.Goals as goal
use Rattle.refusals.proofs.words.put_phrase_at.Goals.{Else-not-begins}

pub returns-then-not-begins : goal.returns-then-not-begins
unfolding phrase_at
returns-then-not-begins c =
    let b = c.begins.ensures in
    rw (sym b ∙ not-true _ c.if-not-begins.true-raw) (nothing c.args.w.now)

-- the words are some
begun : (c : Else-not-begins) →
    let a = c.args in
    (get_or a.refused.now.words a.kind nowhere).from < (get_or a.refused.now.words a.kind nowhere).next
begun c =
    let a = c.args in
    some_words a.refused.now.words a.offset a.kind (sym c.begins.ensures ∙ not-false _ c.if-not-begins.false-raw)

pub slice_bounds-put_phrase-count : goal.slice_bounds-put_phrase-count
unfolding nowhere
slice_bounds-put_phrase-count c = omega (arith, begun (goal.at.slice_bounds-put_phrase-count c).Else-not-begins)

pub slice_bounds-put_phrase-start : goal.slice_bounds-put_phrase-start
unfolding nowhere
slice_bounds-put_phrase-start c = omega (arith, begun (goal.at.slice_bounds-put_phrase-start c).Else-not-begins)

pub slice_bounds-put_phrase-end : goal.slice_bounds-put_phrase-end
unfolding nowhere
slice_bounds-put_phrase-end c =
    let s = c in
    s.args.refused.now.all_inside s.args.kind

pub returns : goal.returns
unfolding phrase_at nowhere
returns c =
    let p = c in
    let w = p.words_from.ensures in
    let f = c in
    let e = c in
    rw (sym e.begins.ensures ∙ not-false _ e.if-not-begins.false-raw)
    (then f.put_phrase.ensures (rw w at p.put_separator.ensures))
