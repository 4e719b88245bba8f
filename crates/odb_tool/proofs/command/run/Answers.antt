use Rattle.std.proofs.Common.{◌≡◌, true, false, [], sym, ap, ◌∙◌}
use Rattle.odb_command.specs.declared.command.Command.TheVariants.{Create, Play}
use Rattle.odb_command.proofs.Only.{one_command}
use Rattle.odb_tool.specs.Words.{is_built}
use Rattle.odb_tool.proofs.Idle.{clash, plays_nothing, creates_nothing}
use Rattle.odb_tool.proofs.command.run.Goals as goal

pub returns-in-Ok-clause-usage_only : goal.returns-in-Ok-clause-usage_only
returns-in-Ok-clause-usage_only g c = λ usage built.
    clash (sym (ap is_built (one_command _ _ _ c.in-Ok.ensures.asked built.1) ∙ built.2) ∙ c.run_command.ensures.built usage)

pub returns-in-Ok-clause-play : goal.returns-in-Ok-clause-play
returns-in-Ok-clause-play g c = λ play. c.run_command.ensures.play (one_command _ _ (Play []) c.in-Ok.ensures.asked play)

pub returns-in-Ok-clause-create : goal.returns-in-Ok-clause-create
returns-in-Ok-clause-create g c = λ side_kib create. c.run_command.ensures.create side_kib (one_command _ _ (Create side_kib) c.in-Ok.ensures.asked create)

pub returns-in-Err-NoMemory-clause-play : goal.returns-in-Err-NoMemory-clause-play
returns-in-Err-NoMemory-clause-play g c = λ play. plays_nothing (g.H.Outside.world c.args.host.now)

pub returns-in-Err-NoMemory-clause-create : goal.returns-in-Err-NoMemory-clause-create
returns-in-Err-NoMemory-clause-create g c = λ side_kib create. creates_nothing side_kib (g.H.Outside.world c.args.host.now)
