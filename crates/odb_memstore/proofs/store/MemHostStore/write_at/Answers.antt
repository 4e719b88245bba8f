use Rattle.std.proofs.Common.{◌∙◌, length, sym, ap, subst}
use Rattle.std.proofs.lemmas.Bool.{not-true, not-false}
use Rattle.odb_device.specs.Calls.{CallsOn, Writes, Tears}
use Rattle.odb_memstore.specs.Tape.{Tape, file_now, world_of}
use Rattle.odb_memstore.specs.Calls.{fails_to_write}
use Rattle.odb_memstore.proofs.StoreCalls.{write_call, write_leaves, write_done, write_tears}
use Rattle.odb_memstore.proofs.store.MemHostStore.write_at.Goals as goal

pub returns-then-not-write-clause-call : goal.returns-then-not-write-clause-call
returns-then-not-write-clause-call c =
    subst (λ (t : Tape). CallsOn c.args.file (world_of c.args.self.now) (world_of t)) (sym c.write.ensures.next) (write_call c.args.self.now c.args.file c.args.at c.args.bytes.now c.write.ensures.whole c.requires)

pub returns-then-not-write-clause-torn : goal.returns-then-not-write-clause-torn
returns-then-not-write-clause-torn c =
    let tape = c.args.self.now in
    let failed = not-false (fails_to_write c.args.file c.args.at (length c.args.bytes.now) tape) (sym c.write.ensures.goes_on ∙ c.if-not-write.true) in
    subst (λ (t : Tape). Tears c.args.file c.args.at (length c.args.bytes.now) (world_of tape) (world_of t)) (sym c.write.ensures.next) (write_tears tape c.args.file c.args.at c.args.bytes.now c.write.ensures.whole c.requires failed)

pub returns-clause-call : goal.returns-clause-call
returns-clause-call c =
    subst (λ (t : Tape). CallsOn c.args.file (world_of c.args.self.now) (world_of t)) (sym c.write.ensures.next) (write_call c.args.self.now c.args.file c.args.at c.args.bytes.now c.write.ensures.whole c.requires)

pub returns-clause-written : goal.returns-clause-written
returns-clause-written c =
    let tape = c.args.self.now in
    let ok = not-true (fails_to_write c.args.file c.args.at (length c.args.bytes.now) tape) (sym c.write.ensures.goes_on ∙ c.if-not-write.false) in
    subst (λ (t : Tape). Writes c.args.file c.args.at c.args.bytes.now (world_of tape) (world_of t)) (sym c.write.ensures.next) (write_done tape c.args.file c.args.at c.args.bytes.now c.write.ensures.whole c.requires ok)

pub returns-then-not-write-clause-leaves : goal.returns-then-not-write-clause-leaves
returns-then-not-write-clause-leaves c =
    ap (λ (t : Tape). file_now t c.args.file) c.write.ensures.next ∙ write_leaves c.args.self.now c.args.file c.args.at c.args.bytes.now c.write.ensures.whole c.requires

pub returns-clause-leaves : goal.returns-clause-leaves
returns-clause-leaves c =
    ap (λ (t : Tape). file_now t c.args.file) c.write.ensures.next ∙ write_leaves c.args.self.now c.args.file c.args.at c.args.bytes.now c.write.ensures.whole c.requires
