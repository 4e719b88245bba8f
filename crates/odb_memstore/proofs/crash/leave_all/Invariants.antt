use Rattle.std.proofs.Common.{◌≡◌, ℕ, length, drop}
use Rattle.odb_memstore.specs.Numbered.{bytes_of}
use Rattle.odb_memstore.specs.Standing.{HavePieces}
use Rattle.odb_memstore.specs.Crash.{digits, left_by}
use Rattle.odb_memstore.proofs.crash.leave_all.Given as goal

abbrev pub invariant-loop-at : goal.invariant-loop-at
invariant-loop-at l = record {
  files : (file : ℕ) → left_by l.pieces file l.calls (digits 40 l.pick) (bytes_of l.initial.files.files file) ≡ left_by l.pieces file (drop l.at l.calls) l.digits (bytes_of l.files.files file);
  pieces : HavePieces (length l.pieces) (drop l.at l.calls);
}
