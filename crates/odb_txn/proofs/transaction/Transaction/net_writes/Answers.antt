use Rattle.std.proofs.Common.{sym, subst}
use Rattle.odb_model.specs.Storable.{IsStorableList}
use Rattle.odb_txn.proofs.Nets.{intended_storable}
use Rattle.odb_txn.proofs.transaction.Transaction.net_writes.Goals as goal

pub returns-clause-storable : goal.returns-clause-storable
returns-clause-storable c =
    subst IsStorableList (sym c.in_ok-net_writes.ensures)
    (intended_storable c.self.inside.own.items c.self.invariant.intentions c.self.invariant.narrow)
