use Rattle.odb_device.proofs.Time.{reads_then}
use Rattle.odb_reclog.proofs.walk.next_record.Goals as goal

pub returns-in_err-payload-clause-run : goal.returns-in_err-payload-clause-run
returns-in_err-payload-clause-run g c = reads_then c.args.file (g.S.Outside.world c.args.store.now) (g.S.Outside.world c.next_place.new.store) (g.S.Outside.world c.bytes.new.store) c.next_place.ensures.run c.bytes.ensures.run

pub returns-in-Some-2-clause-run : goal.returns-in-Some-2-clause-run
returns-in-Some-2-clause-run g c = reads_then c.args.file (g.S.Outside.world c.args.store.now) (g.S.Outside.world c.next_place.new.store) (g.S.Outside.world c.bytes.new.store) c.next_place.ensures.run c.bytes.ensures.run

pub returns-in-None-clause-run : goal.returns-in-None-clause-run
returns-in-None-clause-run g c = reads_then c.args.file (g.S.Outside.world c.args.store.now) (g.S.Outside.world c.next_place.new.store) (g.S.Outside.world c.bytes.new.store) c.next_place.ensures.run c.bytes.ensures.run
