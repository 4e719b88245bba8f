-- Replies to statements that aren't bound.
use Rattle.std.specs.Prelude.{◌≡◌}
use Rattle.odb_model.specs.declared.reply.Reply.{Reply}
use Rattle.odb_model.specs.declared.reply.Reply.TheVariants.{NoColumn, KindMismatch, KeyColumn, ColumnCount}
use Rattle.odb_plan.specs.declared.error.PlanError.{PlanError}
use Rattle.odb_plan.specs.declared.error.PlanError.TheVariants as plan

-- the reply that tells of an error of binding; none tells of want of memory
abbrev pub IsReplyTo : PlanError → Reply → Type 0
IsReplyTo plan.NoColumn r = r ≡ NoColumn
IsReplyTo plan.KindMismatch r = r ≡ KindMismatch
IsReplyTo plan.KeyColumn r = r ≡ KeyColumn
IsReplyTo plan.ColumnCount r = r ≡ ColumnCount
IsReplyTo plan.NoMemory r = ⊥
