use Rattle.std.proofs.Common.{subst}
use Rattle.odb_device.specs.Calls.{CallsOn}
use Rattle.odb_device.specs.Untold.{untold_world}
use Rattle.odb_device.proofs.Untold.{untold_call}
use Rattle.odb_folder.specs.declared.counts.Counts.{Counts}
use Rattle.odb_folder.specs.Counted.{counted_world}
use Rattle.odb_folder.proofs.host.FolderHostStore.write_at.Goals as goal

pub returns-clause-call : goal.returns-clause-call
returns-clause-call g c =
    let counts = c.self.inside.counts in
    let talk = (counted_world counts).talk in
    subst (λ (k : Counts). CallsOn c.args.file (counted_world k) (untold_world c.counted.new.faults talk)) c.self.view_is
    (untold_call c.args.file counts.file_faults c.counted.new.faults talk c.counted.ensures.kept c.counted.ensures.once)
