use Rattle.odb_kept.specs.Decided.{asks}
use Rattle.odb_kept.proofs.Keeping.{step_kept}
use Rattle.odb_kept.proofs.laws.keeps_by_step.Goals as goal

pub returns : goal.returns
returns c = λ before after file old new. step_kept (asks before) (asks after) file old new
