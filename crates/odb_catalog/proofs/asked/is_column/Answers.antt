use Rattle.std.proofs.Common.{sym, ◌∙◌}
use Rattle.odb_model.specs.Table.{is_named}
use Rattle.odb_catalog.proofs.Names.{any_names}
use Rattle.odb_catalog.proofs.asked.is_column.Goals as goal

pub returns : goal.returns
returns c = c.is_some_of.ensures ∙ sym (any_names (is_named c.args.name.now) c.args.columns.now)
