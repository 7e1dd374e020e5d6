-- `sheet_list::ascending::insert` meets its contract. Assumes nothing.
use Rattle.sheet_list.proofs.Ranks.{below_most, inserted_is}
use lib.Seq.{length-take-le}
use lib.ListN.{take}
use native.Mathlib.Omega.{arith}
use Rattle.sheet_list.proofs.ascending.insert.Goals as goal

pub put_at-requires : goal.put_at-requires
put_at-requires c =
    let s = c in
    let l = length-take-le s.args.count s.args.words.now (omega arith) in
    (omega (arith, c.rank-at.ensures, below_most s.args.word (take s.args.count s.args.words.now), l), s.requires.count_in_bounds)

pub returns : goal.returns
returns c =
    let s = c in
    let w = take s.args.count s.args.words.now in
    rw (inserted_is s.args.word w, ← c.rank-at.ensures) c.put_at.ensures
