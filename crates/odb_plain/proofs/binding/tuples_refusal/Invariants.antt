use Rattle.std.proofs.Common.{◌≡◌, drop}
use Rattle.odb_model.specs.Binding.{first_refusal, tuple_refusal}
use Rattle.odb_plain.proofs.binding.tuples_refusal.Given as goal

-- the first refusal is that of the tuples that are left
abbrev pub invariant-loop-tuple : goal.invariant-loop-tuple
invariant-loop-tuple l = first_refusal (tuple_refusal l.columns) (drop l.tuple-index l.tuples) ≡ first_refusal (tuple_refusal l.columns) l.tuples
