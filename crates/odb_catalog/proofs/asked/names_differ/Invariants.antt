use Rattle.std.proofs.Common.{◌≡◌, drop}
use Rattle.odb_model.specs.Dictionary.{names_differ}
use Rattle.odb_catalog.proofs.asked.names_differ.Given as goal

-- the names so far differ from all behind them
abbrev pub invariant-loop-place : goal.invariant-loop-place
invariant-loop-place l = names_differ (drop l.place l.names) ≡ names_differ l.names
