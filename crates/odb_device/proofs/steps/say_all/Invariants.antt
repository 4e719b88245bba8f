use Rattle.std.proofs.Common.{length, ◌-◌}
use Rattle.odb_device.proofs.Talking.{IsSaying}
use Rattle.odb_device.proofs.steps.say_all.Given as goal

abbrev pub invariant-loop-said : goal.invariant-loop-said
invariant-loop-said g l = IsSaying l.bytes (g.C.Outside.world l.initial.console) (g.C.Outside.world l.console) l.said

abbrev pub decreases-loop-said : goal.decreases-loop-said
decreases-loop-said g l = length l.bytes - l.said
