use Rattle.std.proofs.Common.{◌≡◌, ◌++◌}
use Rattle.std.specs.List.{filter}
use Rattle.std.specs.FinMap.{entries}
use Rattle.odb_plain.proofs.Keeping.{is_kept}
use Rattle.odb_plain.proofs.kept.kept_rows.Given as goal

-- what is kept so far, and what will be of the rows that are left
abbrev pub invariant-loop-at : goal.invariant-loop-at
invariant-loop-at l = l.kept.items ++ filter (is_kept l.table l.filter) l.at-iterator ≡ filter (is_kept l.table l.filter) (entries l.rows)
