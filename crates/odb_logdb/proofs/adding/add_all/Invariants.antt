use Rattle.odb_logdb.proofs.Added.{IsAddingAll}
use Rattle.odb_logdb.proofs.adding.add_all.Given as goal

abbrev pub invariant-loop-payload : goal.invariant-loop-payload
invariant-loop-payload g l = IsAddingAll l.payloads l.payload-index l.initial.extents l.initial.log (g.S.Outside.world l.initial.store) l.extents l.log (g.S.Outside.world l.store)
