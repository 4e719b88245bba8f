use Rattle.std.proofs.Common.{sym, ◌∙◌}
use Rattle.odb_model.specs.Table.{is_named}
use Rattle.odb_plain.proofs.Lists.{any_backward}
use Rattle.odb_plain.proofs.sets.is_set_before.Goals as goal

pub returns : goal.returns
returns c = c.is_some_of.ensures ∙ sym (any_backward (is_named c.args.name.now) (λ a. a.column) c.args.earlier.now)
