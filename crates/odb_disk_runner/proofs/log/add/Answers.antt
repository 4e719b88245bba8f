use Rattle.std.proofs.Common.{rules}
use Rattle.odb_disk_runner.proofs.log.add.Goals as goal

pub open_gate-requires : goal.open_gate-requires
open_gate-requires c = record { ready = record { usable = search rules; written = search rules; stands = tt; body = tt } }
