use Rattle.std.proofs.Common.{◌≡◌, ◌+◌, ◌++◌, length}
use Rattle.odb_model.specs.Transaction.{read_at}
use Rattle.odb_txn.specs.ReadSet.{keep_all}
use Rattle.odb_txn.proofs.read_set.ReadSet.put_all.Given as goal

abbrev pub invariant-loop-range : goal.invariant-loop-range
invariant-loop-range l =
    (l.self.items ≡ keep_all l.initial.self.items (read_at l.fn.number l.yielded))
    × (l.self.spare + length l.yielded ≡ l.initial.self.spare)
    × (l.yielded ++ l.range-iterator.rest.items ≡ l.fn.ranges)
