use Rattle.std.proofs.Common.{◌≡◌, map, take}
use Rattle.odb_eval.specs.Bound.{column_source}
use Rattle.odb_plan.proofs.what.named_sources.Given as goal

-- the sources of the names so far
abbrev pub invariant-loop-name : goal.invariant-loop-name
invariant-loop-name l = l.sources.items ≡ map (column_source l.table) (take l.name-index l.names)
