use Rattle.std.proofs.Common.{ap, sym, ◌∙◌}
use Rattle.odb_model.specs.Script.{without_cr}
use Rattle.odb_play.proofs.Marks.{without_cr-cr, without_cr-none}
use Rattle.odb_play.proofs.player.strip_cr.Goals as goal

pub returns-in-Some : goal.returns-in-Some
returns-in-Some c = sym (ap without_cr c.in-Some.ensures.found ∙ without_cr-cr c.in-Some.front.now)

pub returns-in-None : goal.returns-in-None
returns-in-None c = without_cr-none c.args.line.now c.in-None.ensures.none
