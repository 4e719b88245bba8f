use Rattle.std.proofs.Common.{◌≡◌, ◌++◌, string_bytes}
use Rattle.odb_model.specs.Print.{values_text}
use Rattle.odb_check.proofs.Cells.{cells}
use Rattle.odb_check.proofs.line.put_values.Given as goal

-- the values of the columns so far are written
abbrev pub invariant-loop-place : goal.invariant-loop-place
invariant-loop-place l = string_bytes l.out ≡ string_bytes l.fn.out ++ values_text (cells l.table l.key l.row l.place)
