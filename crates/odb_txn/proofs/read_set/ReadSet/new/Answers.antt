use Rattle.std.proofs.Common.{List, length, sym, ap, subst, arith}
use Rattle.odb_model.specs.declared.outcome.Read.{Read}
use Rattle.odb_model.specs.Window.{oldest_number}
use Rattle.odb_txn.specs.ReadSet.{AreOrdered}
use Rattle.odb_txn.proofs.Keeping.{AreOrdered-none}
use Rattle.odb_txn.proofs.read_set.ReadSet.new.Goals as goal

pub invariant_of-result : goal.invariant_of-result
invariant_of-result c = (
  subst (λ (reads : List Read). AreOrdered reads) (sym c.new.ensures.items) AreOrdered-none,
  ap oldest_number (sym c.new.ensures.items),
  omega (arith, ap length c.new.ensures.items, c.new.ensures.capacity),
)
