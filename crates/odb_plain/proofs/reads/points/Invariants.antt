use Rattle.std.proofs.Common.{◌≡◌, map, take}
use Rattle.odb_model.specs.Reads.{point, full_keys}
use Rattle.odb_plain.proofs.reads.points.Given as goal

-- the points of the tuples so far
abbrev pub invariant-loop-tuple : goal.invariant-loop-tuple
invariant-loop-tuple l = l.ranges.items ≡ map (point l.table.number) (full_keys l.table (take l.tuple-index l.tuples))
