use Rattle.std.proofs.Common.{length, ◌-◌}
use Rattle.odb_frame.proofs.Sends.{IsSending}
use Rattle.odb_frame.proofs.sending.send_all.Given as goal

abbrev pub invariant-loop-sent : goal.invariant-loop-sent
invariant-loop-sent g l = IsSending l.bytes (g.L.Link.wire l.initial.link) (g.L.Link.wire l.link) l.sent

abbrev pub decreases-loop-sent : goal.decreases-loop-sent
decreases-loop-sent g l = length l.bytes - l.sent
