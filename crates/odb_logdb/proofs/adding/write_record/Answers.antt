use Rattle.std.proofs.Common.{arith}
use Rattle.std.proofs.lemmas.Result.{on_ok_weaker}
use Rattle.odb_reclog.specs.Regions.{IsWritten}
use Rattle.odb_logdb.proofs.Behind.{behind_held, keeps_then, stands_at_file, same_then, written_from}
use Rattle.odb_logdb.proofs.adding.write_record.Goals as goal

pub clear_tail-requires : goal.clear_tail-requires
clear_tail-requires g c =
    let a = c.requires.held in
    record {
      usable = a.1.2.usable;
      stands = stands_at_file a.0 a.1.0 c.args.log.now a.1.1 (g.S.Outside.world c.args.store.now) a.1.2;
    }

pub returns-in_err-clear_tail-clause-keeps : goal.returns-in_err-clear_tail-clause-keeps
returns-in_err-clear_tail-clause-keeps g c = λ e f entries held.
    behind_held e f c.args.log.now c.clear_tail.new.self entries (g.S.Outside.world c.args.store.now) (g.S.Outside.world c.clear_tail.new.store) held (omega (arith, c.requires.room)) c.clear_tail.ensures.behind

pub write_body-requires : goal.write_body-requires
write_body-requires g c =
    let a = c.requires.held in
    let keeps = behind_held a.0 a.1.0 c.args.log.now c.clear_tail.new.self a.1.1 (g.S.Outside.world c.args.store.now) (g.S.Outside.world c.clear_tail.new.store) a.1.2 (omega (arith, c.requires.room)) c.clear_tail.ensures.behind in
    record {
      usable = keeps.held.usable;
      size = c.requires.short;
      clear = c.in_ok-clear_tail.ensures.clear.0;
      stands = stands_at_file a.0 a.1.0 c.clear_tail.new.self a.1.1 (g.S.Outside.world c.clear_tail.new.store) keeps.held;
    }

pub returns-clause-keeps : goal.returns-clause-keeps
returns-clause-keeps g c = λ e f entries held.
    let w = g.S.Outside.world c.args.store.now in
    let mid = g.S.Outside.world c.clear_tail.new.store in
    let now = g.S.Outside.world c.write_body.new.store in
    let same = c.clear_tail.ensures.behind.same in
    let first = behind_held e f c.args.log.now c.clear_tail.new.self entries w mid held (omega (arith, c.requires.room)) c.clear_tail.ensures.behind in
    let second = behind_held e f c.clear_tail.new.self c.write_body.new.self entries mid now first.held (omega (arith, c.requires.room, same.place, same.end)) c.write_body.ensures.behind in
    keeps_then e e f c.clear_tail.new.self c.write_body.new.self entries w mid now first second

pub returns-clause-same : goal.returns-clause-same
returns-clause-same g c = same_then c.args.log.now c.clear_tail.new.self c.write_body.new.self c.clear_tail.ensures.behind.same c.write_body.ensures.behind.same

pub returns-clause-written : goal.returns-clause-written
returns-clause-written g c =
    on_ok_weaker c.write_body.result
    (λ (is : IsWritten c.args.payload.now c.clear_tail.new.self c.write_body.new.self (g.S.Outside.world c.write_body.new.store)).
    written_from c.args.payload.now c.args.log.now c.clear_tail.new.self c.write_body.new.self (g.S.Outside.world c.write_body.new.store) c.clear_tail.ensures.behind.same is)
    c.write_body.ensures.written
