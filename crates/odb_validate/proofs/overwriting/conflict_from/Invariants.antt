use Rattle.std.proofs.Common.{◌≡◌, drop}
use Rattle.odb_model.specs.Transaction.{first_conflict}
use Rattle.odb_validate.proofs.overwriting.conflict_from.Given as goal

-- no entry so far conflicts
abbrev pub invariant-loop-index : goal.invariant-loop-index
invariant-loop-index l =
    first_conflict l.reads (drop l.index l.entries.items)
    ≡ first_conflict l.reads (drop l.place l.entries.items)
