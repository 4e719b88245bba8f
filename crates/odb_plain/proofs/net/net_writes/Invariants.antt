use Rattle.std.proofs.Common.{◌≡◌, ◌++◌}
use Rattle.odb_model.specs.State.{replay}
use Rattle.odb_model.specs.Transaction.{net}
use Rattle.odb_plain.proofs.Nets.{kept}
use Rattle.odb_plain.proofs.net.net_writes.Given as goal

-- what is kept so far, and what will be of the writes that are left
abbrev pub invariant-loop-at : goal.invariant-loop-at
invariant-loop-at l = record { all : l.net.items ++ kept (replay l.history) l.at-iterator ≡ net (replay l.history) l.write_set; none_spare : l.net.spare ≡ 0 }
