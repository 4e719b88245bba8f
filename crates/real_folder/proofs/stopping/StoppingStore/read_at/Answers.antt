use Rattle.std.proofs.Common.{◌≡◌, ◌∙◌, ap, subst}
use Rattle.odb_device.specs.Calls.{CallsOn}
use Rattle.odb_device.specs.Untold as device
use Rattle.odb_device.proofs.Untold.{untold_call}
use Rattle.real_folder.specs.declared.stopping.Counts.{Counts}
use Rattle.real_folder.specs.declared.stopping.Stopping.TheInside.{Inside}
use Rattle.real_folder.specs.Untold.{untold_world}
use Rattle.real_folder.proofs.stopping.StoppingStore.read_at.Goals as goal
use Rattle.real_folder.proofs.stopping.StoppingStore.read_at.Goals.{then-goes_on, else-goes_on}

pub returns-clause-call : goal.returns-clause-call
returns-clause-call g c =
    let counts = c.if-goes_on.self-inside.counts in
    let talk = (untold_world counts).talk in
    let same : counts ≡ c.self.inside.counts = elim c.if-goes_on.branch [
      | then-goes_on w ↦ ap (λ (i : Inside g.row.S.Denot). i.counts) w.self-inside-is
      | else-goes_on w ↦ ap (λ (i : Inside g.row.S.Denot). i.counts) w.self-inside-is
    ] in
    subst (λ (k : Counts). CallsOn c.args.file (untold_world k) (device.untold_world c.counted.new.faults talk)) (same ∙ c.self.view_is)
    (untold_call c.args.file counts.file_faults c.counted.new.faults talk c.counted.ensures.kept c.counted.ensures.once)
