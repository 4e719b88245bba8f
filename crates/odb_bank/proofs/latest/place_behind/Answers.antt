use Rattle.std.proofs.Common.{rules}
use Rattle.std.proofs.lemmas.List.Sorted.{IsPartitionPoint-from_clause}
use Rattle.odb_bank.specs.LeastAbove.{is_passed}
use Rattle.odb_bank.proofs.Passing.{parted}
use Rattle.odb_bank.proofs.latest.place_behind.Goals as goal

pub returns-clause-splits : goal.returns-clause-splits
returns-clause-splits c =
    let before = c.args.before.now in
    IsPartitionPoint-from_clause (is_passed before) c.args.writes.now _ c.partition_point.ensures.partitioned
    (parted before c.args.writes.now c.requires) (λ a r q k. search rules)
