use Rattle.std.proofs.Common.{rules}
use Rattle.std.proofs.lemmas.List.Sorted.{IsPartitionPoint-from_clause}
use Rattle.odb_model.specs.declared.table_key.TableKey.{TableKey}
use Rattle.odb_rowsource.specs.Intentions.{is_before}
use Rattle.odb_rowsource.proofs.Intended.{parted, before-down}
use Rattle.odb_rowsource.proofs.intentions.place_among.Goals as goal

pub returns-clause-splits : goal.returns-clause-splits
returns-clause-splits c =
    let at : TableKey = record { table = c.args.table; key = c.args.key.now } in
    IsPartitionPoint-from_clause (is_before at) c.args.items.now _ c.partition_point.ensures.partitioned
    (parted (is_before at) (before-down at) c.args.items.now c.requires) (λ a r q k. search rules)
