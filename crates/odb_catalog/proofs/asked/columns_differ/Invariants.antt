use Rattle.std.proofs.Common.{◌≡◌, drop}
use Rattle.odb_model.specs.Dictionary.{names_differ}
use Rattle.odb_model.specs.Definitions.{text_names}
use Rattle.odb_catalog.proofs.asked.columns_differ.Given as goal

-- the names so far differ from all behind them
abbrev pub invariant-loop-place : goal.invariant-loop-place
invariant-loop-place l = names_differ (text_names (drop l.place l.columns)) ≡ names_differ (text_names l.columns)
