use Rattle.std.proofs.Common.{◌≡◌, take, drop}
use Rattle.std.specs.List.{flat_map}
use Rattle.odb_model.specs.State.{after_writes}
use Rattle.odb_model.specs.Meaning.{writes_of, tuples_refusal}
use Rattle.odb_plain.specs.Changes.{Joins}
use Rattle.odb_plain.proofs.insert.tuples_changes.Given as goal

-- the tuples so far are put: the rest decides what refuses them all
abbrev pub invariant-loop-tuple : goal.invariant-loop-tuple
invariant-loop-tuple l = record {
  refusal : tuples_refusal l.format l.table (after_writes l.rows l.writes.items) (drop l.tuple-index l.tuples) ≡ tuples_refusal l.format l.table l.rows l.tuples;
  made : l.writes.items ≡ flat_map (writes_of l.table) (take l.tuple-index l.tuples);
  joins : Joins (after_writes l.rows l.writes.items) l.rows l.earlier;
}
