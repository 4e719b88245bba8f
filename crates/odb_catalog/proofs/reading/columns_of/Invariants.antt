use Rattle.std.proofs.Common.{◌≡◌, map}
use Rattle.odb_catalog.proofs.reading.columns_of.Given as goal

-- the columns so far
abbrev pub invariant-loop-one : goal.invariant-loop-one
invariant-loop-one l = l.columns.items ≡ map (λ d. d.column) l.yielded
