use Rattle.std.proofs.Common.{◌≡◌, take, drop}
use Rattle.odb_model.specs.Binding.{sets_after, sets_refusal}
use Rattle.odb_plain.specs.Earlier.{names_backward}
use Rattle.odb_plain.proofs.sets.sets_refusal.Given as goal

-- the first refusal is that of the assignments that are left, behind the others
abbrev pub invariant-loop-place : goal.invariant-loop-place
invariant-loop-place l = sets_after l.table (names_backward (take l.place l.sets)) (drop l.place l.sets) ≡ sets_refusal l.table l.sets
