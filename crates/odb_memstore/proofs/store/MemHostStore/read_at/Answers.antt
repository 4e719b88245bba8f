use Rattle.std.proofs.Common.{◌∙◌, List, ℕ, sym, ap, subst}
use Rattle.odb_device.specs.World.{File}
use Rattle.odb_device.specs.Calls.{CallsOn, Stays}
use Rattle.odb_memstore.specs.Tape.{Tape, file_now, world_of}
use Rattle.odb_device.specs.Calls.{HasCopied}
use Rattle.odb_memstore.proofs.StoreCalls.{look_call, look_stays, look_same}
use Rattle.odb_memstore.proofs.store.MemHostStore.read_at.Goals as goal

pub returns-then-not-ask-clause-call : goal.returns-then-not-ask-clause-call
returns-then-not-ask-clause-call c = subst (λ (t : Tape). CallsOn c.args.file (world_of c.args.self.now) (world_of t)) (sym c.ask.ensures.next) (look_call c.args.self.now c.args.file c.ask.ensures.whole)

pub returns-then-not-ask-clause-same : goal.returns-then-not-ask-clause-same
returns-then-not-ask-clause-same c = subst (λ (t : Tape). Stays c.args.file (world_of c.args.self.now) (world_of t)) (sym c.ask.ensures.next) (look_stays c.args.self.now c.args.file c.ask.ensures.whole)

pub returns-clause-call : goal.returns-clause-call
returns-clause-call c = subst (λ (t : Tape). CallsOn c.args.file (world_of c.args.self.now) (world_of t)) (sym c.ask.ensures.next) (look_call c.args.self.now c.args.file c.ask.ensures.whole)

pub returns-clause-same : goal.returns-clause-same
returns-clause-same c = subst (λ (t : Tape). Stays c.args.file (world_of c.args.self.now) (world_of t)) (sym c.ask.ensures.next) (look_stays c.args.self.now c.args.file c.ask.ensures.whole)

pub returns-clause-bytes : goal.returns-clause-bytes
returns-clause-bytes c =
    let is = c.bytes.ensures ∙ ap (λ (t : Tape). (file_now t c.args.file).bytes) c.ask.ensures.next ∙ ap (λ (f : File). f.bytes) (look_same c.args.self.now c.args.file c.ask.ensures.whole) in
    subst (λ (l : List ℕ). HasCopied l c.args.at c.copy_from.result c.copy_from.new.out) is c.copy_from.ensures.copied
