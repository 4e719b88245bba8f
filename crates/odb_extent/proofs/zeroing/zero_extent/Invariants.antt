use Rattle.std.proofs.Common.{◌*◌}
use Rattle.odb_extent.proofs.Blank.{IsZeroing}
use Rattle.odb_extent.proofs.zeroing.zero_extent.Given as goal

abbrev pub invariant-loop-piece : goal.invariant-loop-piece
invariant-loop-piece g l = IsZeroing l.file l.limit (65536 * l.piece) (g.S.Outside.world l.initial.store) (g.S.Outside.world l.store)
