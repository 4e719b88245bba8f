use Rattle.std.proofs.Common.{◌≡◌, drop}
use Rattle.std.specs.List.{find}
use Rattle.odb_model.specs.Table.{is_named}
use Rattle.odb_plain.proofs.new_values.set_of.Given as goal

-- what is found is found among those that are left
abbrev pub invariant-loop-set : goal.invariant-loop-set
invariant-loop-set l = find (λ a. is_named a.column l.name) (drop l.set-index l.sets) ≡ find (λ a. is_named a.column l.name) l.sets
