use Rattle.std.proofs.Common.{length, ◌-◌}
use Rattle.odb_frame.proofs.Receiving.{IsReceiving}
use Rattle.odb_frame.proofs.reading.receive_all.Given as goal

abbrev pub invariant-loop-received : goal.invariant-loop-received
invariant-loop-received g l = IsReceiving l.out (g.L.Link.wire l.initial.link) (g.L.Link.wire l.link) l.received

abbrev pub decreases-loop-received : goal.decreases-loop-received
decreases-loop-received g l = length l.initial.out - l.received
