use Rattle.std.proofs.Common.{[]}
use Rattle.odb_model.specs.Transaction.{reads_of}
use Rattle.odb_model.proofs.Own.{no_conflict, runs_lawfully, does_alone}
use Rattle.odb_model.proofs.laws.answers_alone.Goals as goal

pub returns : goal.returns
returns c = λ h t format numbered answered none. (does_alone h [] t format numbered (runs_lawfully h [] t format) answered (no_conflict (reads_of h t format) h none)).replies
