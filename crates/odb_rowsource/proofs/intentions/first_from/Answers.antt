use Rattle.std.proofs.Common.{rules, Option, List}
use Rattle.std.specs.Option.{option_copied}
use Rattle.std.proofs.lemmas.List.Sorted.{IsPartitionPoint-from_clause}
use Rattle.odb_values.specs.declared.value.Value.{Value}
use Rattle.odb_rowsource.specs.Intentions.{is_passed}
use Rattle.odb_rowsource.proofs.Intended.{parted, passed-down}
use Rattle.odb_rowsource.proofs.intentions.first_from.Goals as goal

pub returns : goal.returns
returns c =
    let range = c.args.range.now in
    let after : Option (List Value) = option_copied c.args.after in
    IsPartitionPoint-from_clause (is_passed range after) c.args.items.now _ c.partition_point.ensures.partitioned
    (parted (is_passed range after) (passed-down range after) c.args.items.now c.requires) (λ a r q k. search rules)
