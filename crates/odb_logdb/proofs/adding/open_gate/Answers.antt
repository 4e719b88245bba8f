use Rattle.std.proofs.Common.{Result, sym, subst}
use Rattle.std.proofs.lemmas.Result.{err_from_is_err_and}
use Rattle.odb_reclog.specs.declared.error.RecError.{RecError}
use Rattle.odb_logdb.specs.Adding.{OpensOne}
use Rattle.odb_logdb.proofs.Behind.{opens_one, of_err, of_ok}
use Rattle.odb_logdb.proofs.adding.open_gate.Goals as goal

pub returns-in_err-open_gate-clause-adds : goal.returns-in_err-open_gate-clause-adds
returns-in_err-open_gate-clause-adds g c = λ e f entries one held body.
    let w = g.S.Outside.world c.args.store.now in
    let now = g.S.Outside.world c.open_gate.new.store in
    let p = err_from_is_err_and c.from_residual.result c.from_residual.ensures.1 in
    subst (λ (r : Result (Unit {0}) RecError). OpensOne e f c.open_gate.new.self entries one r w now) (sym p.1)
    (of_err e f c.open_gate.new.self entries one c.open_gate.result c.in_err-open_gate.field-0.0 p.0 w now c.in_err-open_gate.was
    (opens_one e f c.args.log.now c.open_gate.new.self entries one c.open_gate.result w now held (g.met.S.Store.reads_image c.args.store.now 1) c.requires.ready.body body c.open_gate.ensures.run c.open_gate.ensures.region c.open_gate.ensures.added
    c.open_gate.ensures.err))

pub returns-clause-adds : goal.returns-clause-adds
returns-clause-adds g c = λ e f entries one held body.
    let w = g.S.Outside.world c.args.store.now in
    let now = g.S.Outside.world c.open_gate.new.store in
    of_ok e f c.open_gate.new.self entries one c.open_gate.result c.in_ok-open_gate.field-0 tt w now c.in_ok-open_gate.was
    (opens_one e f c.args.log.now c.open_gate.new.self entries one c.open_gate.result w now held (g.met.S.Store.reads_image c.args.store.now 1) c.requires.ready.body body c.open_gate.ensures.run c.open_gate.ensures.region c.open_gate.ensures.added
    c.open_gate.ensures.err)
