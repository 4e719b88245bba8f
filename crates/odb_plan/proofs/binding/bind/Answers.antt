use Rattle.std.proofs.Common.{sym, ◌∙◌}
use Rattle.odb_plan.proofs.Replies.{binding_reply}
use Rattle.odb_plan.proofs.binding.bind.Goals as goal

pub refused_by-requires : goal.refused_by-requires
refused_by-requires c = binding_reply c.args.table.now c.args.statement.now c.in-Some.reply (sym c.binding_refusal.ensures ∙ c.in-Some.is)
