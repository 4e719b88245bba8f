use Rattle.std.proofs.Common.{ℕ, subst}
use Rattle.odb_device.specs.Calls.{CallsOn}
use Rattle.odb_device.proofs.Untold.{untold_call}
use Rattle.odb_row_disks.specs.Untold.{untold_world}
use Rattle.odb_row_disks.proofs.untold.UntoldStore.length.Goals as goal

pub returns-clause-call : goal.returns-clause-call
returns-clause-call c =
    let faults = c.self.inside.faults in
    subst (λ (k : ℕ). CallsOn c.args.file (untold_world k) (untold_world c.counted.new.faults)) c.self.view_is
    (untold_call c.args.file faults c.counted.new.faults (untold_world faults).talk c.counted.ensures.kept c.counted.ensures.once)
