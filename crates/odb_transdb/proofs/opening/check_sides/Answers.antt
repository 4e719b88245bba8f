use Rattle.odb_transdb.proofs.Opens.{look_then}
use Rattle.odb_transdb.proofs.opening.check_sides.Goals as goal

pub returns-in-Some-clause-run : goal.returns-in-Some-clause-run
returns-in-Some-clause-run g c =
    look_then (g.S.Outside.world c.args.store.now) (g.S.Outside.world c.length.new.self) (g.S.Outside.world c.find_other.new.store) c.length.ensures.call c.length.ensures.same c.find_other.ensures.run

pub returns-in-None-clause-run : goal.returns-in-None-clause-run
returns-in-None-clause-run g c =
    look_then (g.S.Outside.world c.args.store.now) (g.S.Outside.world c.length.new.self) (g.S.Outside.world c.find_other.new.store) c.length.ensures.call c.length.ensures.same c.find_other.ensures.run

pub returns-in_err-at-clause-run : goal.returns-in_err-at-clause-run
returns-in_err-at-clause-run g c =
    look_then (g.S.Outside.world c.args.store.now) (g.S.Outside.world c.length.new.self) (g.S.Outside.world c.find_other.new.store) c.length.ensures.call c.length.ensures.same c.find_other.ensures.run
