use Rattle.std.proofs.Common.{sym, subst}
use Rattle.odb_device.specs.Console.{Talks}
use Rattle.odb_memstore.specs.Tape.{Tape, world_of}
use Rattle.odb_memstore.proofs.ConsoleCalls.{say_talks}
use Rattle.odb_memstore.proofs.console.MemHostConsole.say.Goals as goal

pub returns-then-not-say_whole-clause-call : goal.returns-then-not-say_whole-clause-call
returns-then-not-say_whole-clause-call c = subst (λ (t : Tape). Talks (world_of c.args.self.now) (world_of t)) (sym c.say_whole.ensures.next) (say_talks c.args.self.now c.say_whole.ensures.whole c.args.bytes.now)

pub returns-clause-call : goal.returns-clause-call
returns-clause-call c = subst (λ (t : Tape). Talks (world_of c.args.self.now) (world_of t)) (sym c.say_whole.ensures.next) (say_talks c.args.self.now c.say_whole.ensures.whole c.args.bytes.now)
