use Rattle.std.proofs.Common.{◌≡◌, map, take}
use Rattle.odb_eval.specs.Bound.{source_value}
use Rattle.odb_exec.proofs.select.values_of.Given as goal

-- the values of the sources so far
abbrev pub invariant-loop-source : goal.invariant-loop-source
invariant-loop-source l = l.values.items ≡ map (source_value l.key l.row) (take l.source-index l.sources)
