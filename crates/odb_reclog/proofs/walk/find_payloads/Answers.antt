use Rattle.std.proofs.Common.{◌≡◌, ℕ, [], ◌∷◌, ◌++◌, List, ◌∙◌, ap}
use Rattle.odb_values.specs.Listed.{Listed}
use Rattle.odb_reclog.proofs.Gathering.{gather_more}
use Rattle.odb_device.proofs.Time.{reads_then}
use Rattle.odb_reclog.proofs.walk.find_payloads.Goals as goal

pub loop-payloads-preserved : goal.loop-payloads-preserved
loop-payloads-preserved g c =
    let found = c.in_ok-record.ensures in
    let old = c.loop-payloads.payloads.items in
    let payload = c.in-Some.record.payload in
    let added : c.push.new.self.items ≡ old ++ payload ∷ [] =
    ap (λ (l : Listed (List ℕ)). l.items) c.push.ensures ∙ ap (λ (l : Listed (List ℕ)). l.items ++ payload ∷ []) c.in_ok-reserve.ensures.ok in
    gather_more c.args.region.file c.args.region.start c.args.region.end c.args.region.first (g.S.Outside.world c.args.store.now) (g.S.Outside.world c.loop-payloads.store)
    (g.S.Outside.world c.next_record.new.store) c.loop-payloads.window c.next_record.new.window old c.push.new.self.items
    c.loop-payloads.place c.loop-payloads.number c.in_ok-record.field-0 c.in-Some.record c.loop-payloads.invariant added c.next_record.ensures.run found.shows found.next found.payload
    found.forward c.in-Some.is

pub returns-in_err-record-clause-run : goal.returns-in_err-record-clause-run
returns-in_err-record-clause-run g c = reads_then c.args.region.file (g.S.Outside.world c.args.store.now) (g.S.Outside.world c.loop-payloads.store) (g.S.Outside.world c.next_record.new.store) c.loop-payloads.invariant.run c.next_record.ensures.run

pub returns-in_err-reserve-clause-run : goal.returns-in_err-reserve-clause-run
returns-in_err-reserve-clause-run g c = reads_then c.args.region.file (g.S.Outside.world c.args.store.now) (g.S.Outside.world c.loop-payloads.store) (g.S.Outside.world c.next_record.new.store) c.loop-payloads.invariant.run c.next_record.ensures.run

pub returns-clause-run : goal.returns-clause-run
returns-clause-run g c = reads_then c.args.region.file (g.S.Outside.world c.args.store.now) (g.S.Outside.world c.loop-payloads.store) (g.S.Outside.world c.next_record.new.store) c.loop-payloads.invariant.run c.next_record.ensures.run
