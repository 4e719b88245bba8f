use Rattle.std.proofs.Common.{◌∙◌, sym, ap, subst}
use Rattle.std.proofs.lemmas.Bool.{not-true, not-false}
use Rattle.odb_device.specs.Calls.{CallsOn, Keeps, Unsettles}
use Rattle.odb_memstore.specs.Recording.{fails}
use Rattle.odb_memstore.specs.Tape.{Tape, file_now, world_of}
use Rattle.odb_memstore.proofs.StoreCalls.{sync_call, sync_leaves, sync_keeps, sync_unsettles}
use Rattle.odb_memstore.proofs.store.MemHostStore.sync.Goals as goal

pub returns-then-not-ask-clause-call : goal.returns-then-not-ask-clause-call
returns-then-not-ask-clause-call c = subst (λ (t : Tape). CallsOn c.args.file (world_of c.args.self.now) (world_of t)) (sym c.ask.ensures.next) (sync_call c.args.self.now c.args.file c.ask.ensures.whole)

pub returns-then-not-ask-clause-unsettled : goal.returns-then-not-ask-clause-unsettled
returns-then-not-ask-clause-unsettled c =
    subst (λ (t : Tape). Unsettles c.args.file (world_of c.args.self.now) (world_of t)) (sym c.ask.ensures.next)
    (sync_unsettles c.args.self.now c.args.file c.ask.ensures.whole (not-false (fails c.args.self.now.recording) (sym c.ask.ensures.goes_on ∙ c.if-not-ask.true)))

pub returns-clause-call : goal.returns-clause-call
returns-clause-call c = subst (λ (t : Tape). CallsOn c.args.file (world_of c.args.self.now) (world_of t)) (sym c.ask.ensures.next) (sync_call c.args.self.now c.args.file c.ask.ensures.whole)

pub returns-clause-kept : goal.returns-clause-kept
returns-clause-kept c =
    subst (λ (t : Tape). Keeps c.args.file (world_of c.args.self.now) (world_of t)) (sym c.ask.ensures.next)
    (sync_keeps c.args.self.now c.args.file c.ask.ensures.whole (not-true (fails c.args.self.now.recording) (sym c.ask.ensures.goes_on ∙ c.if-not-ask.false)))

pub returns-then-not-ask-clause-leaves : goal.returns-then-not-ask-clause-leaves
returns-then-not-ask-clause-leaves c =
    ap (λ (t : Tape). file_now t c.args.file) c.ask.ensures.next ∙ sync_leaves c.args.self.now c.args.file c.ask.ensures.whole

pub returns-clause-leaves : goal.returns-clause-leaves
returns-clause-leaves c =
    ap (λ (t : Tape). file_now t c.args.file) c.ask.ensures.next ∙ sync_leaves c.args.self.now c.args.file c.ask.ensures.whole
