use Rattle.std.proofs.Common.{◌∙◌, ap, sym}
use Rattle.odb_model.specs.Transaction.{first_conflict}
use Rattle.odb_plain.proofs.Conflicts.{first_conflict-early, first_conflict-unread}
use Rattle.odb_plain.proofs.conflict.first_conflict.Goals as goal

pub returns-in_err-least : goal.returns-in_err-least
returns-in_err-least c = c.from_residual.ensures ∙ sym (ap (λ rs. first_conflict rs c.args.history.now) c.in_err-least.ensures.none ∙ first_conflict-unread c.args.history.now)

pub loop-entry-init : goal.loop-entry-init
loop-entry-init c = ap (first_conflict c.args.reads.now) c.after-later.ensures ∙ first_conflict-early c.args.reads.now c.in_ok-least.least c.args.history.now c.requires c.in_ok-least.ensures.least
