use Rattle.std.proofs.Common.{length, take, List, ℕ, sym, subst}
use Rattle.std.proofs.lemmas.Bool.{not-true}
use Rattle.odb_device.specs.Console.{Talks, Takes}
use Rattle.odb_memstore.specs.Recording.{fails}
use Rattle.odb_memstore.specs.Tape.{Tape, world_of}
use Rattle.odb_memstore.specs.Calls.{after_take}
use Rattle.odb_memstore.proofs.ConsoleCalls.{take_talks, take_takes}
use Rattle.odb_memstore.proofs.console.MemHostConsole.take.Goals as goal

pub returns-in-None-clause-call : goal.returns-in-None-clause-call
returns-in-None-clause-call c = subst (λ (t : Tape). Talks (world_of c.args.self.now) (world_of t)) (sym c.take_next.ensures.next) (take_talks c.args.self.now c.take_next.ensures.whole (length c.args.out.now))

pub returns-in-Some-clause-call : goal.returns-in-Some-clause-call
returns-in-Some-clause-call c = subst (λ (t : Tape). Talks (world_of c.args.self.now) (world_of t)) (sym c.take_next.ensures.next) (take_talks c.args.self.now c.take_next.ensures.whole (length c.args.out.now))

pub returns-in-Some-clause-taken : goal.returns-in-Some-clause-taken
returns-in-Some-clause-taken c =
    let tape = c.args.self.now in
    let ok = not-true (fails tape.recording) (sym c.in-Some.ensures.goes_on) in
    subst (λ (t : Tape). Takes (take c.in-Some.n c.take_next.new.out) (world_of tape) (world_of t)) (sym c.take_next.ensures.next)
    (subst (λ (l : List ℕ). Takes l (world_of tape) (world_of (after_take (length c.args.out.now) tape))) (sym c.in-Some.ensures.bytes) (take_takes tape c.take_next.ensures.whole (length c.args.out.now) ok))
