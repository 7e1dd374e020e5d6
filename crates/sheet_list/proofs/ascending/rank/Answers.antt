-- `sheet_list::ascending::rank` meets its contract. Assumes nothing.
use Rattle.std.proofs.Common.{rules, ltb}
use Rattle.std.proofs.lemmas.List.Sorted.{IsPartitionPoint-from_clause, IsPartitionedBy-ltb}
use Rattle.sheet_list.proofs.Ranks.{rises, at_point}
use Rattle.sheet_list.proofs.ascending.rank.Goals as goal

pub returns : goal.returns
returns c =
    let w = c.args.words.now in
    let parted = IsPartitionedBy-ltb (λ y. y) w c.args.word (rises 0 w c.requires) in
    let p = c.partition_point.ensures in
    at_point c.args.word w _ c.requires p.bound
    (IsPartitionPoint-from_clause (λ y. ltb y c.args.word) w _ p.partitioned parted (λ a r q k. search rules))
