use Rattle.std.proofs.Common.{rules}
use Rattle.std.proofs.lemmas.List.Sorted.{IsPartitionPoint-from_clause}
use Rattle.odb_txn.specs.ReadSet.{is_before}
use Rattle.odb_txn.proofs.Keeping.{parted}
use Rattle.odb_txn.proofs.read_set.place_among.Goals as goal

pub returns-clause-splits : goal.returns-clause-splits
returns-clause-splits c =
    let range = c.args.range.now in
    IsPartitionPoint-from_clause (is_before range) c.args.items.now _ c.partition_point.ensures.partitioned
    (parted range c.args.items.now c.requires) (λ a r q k. search rules)
