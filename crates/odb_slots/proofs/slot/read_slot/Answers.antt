use Rattle.std.proofs.Common.{ℕ, ◌+◌, ◌*◌, subst, arith}
use Rattle.odb_device.specs.Calls.{HasRead}
use Rattle.odb_device.specs.World.{file_of}
use Rattle.odb_slots.proofs.Finding.{reads_one, answer_told}
use Rattle.odb_slots.proofs.slot.read_slot.Goals as goal

pub returns-clause-run : goal.returns-clause-run
returns-clause-run g c = reads_one c.args.file (g.S.Outside.world c.args.store.now) (g.S.Outside.world c.read_at.new.self) c.read_at.ensures.call c.read_at.ensures.same

pub returns-clause-answer : goal.returns-clause-answer
returns-clause-answer g c =
    answer_told (file_of c.args.file (g.S.Outside.world c.args.store.now)) c.args.slot c.in_ok-n.n c.read_at.new.out c.open_item.result
    (subst (λ (s : ℕ). HasRead (file_of c.args.file (g.S.Outside.world c.args.store.now)) (1024 + 1024 * s) c.in_ok-n.n c.read_at.new.out) c.from.ensures c.in_ok-n.ensures.bytes) (omega arith) c.requires.long c.open_item.ensures.answer
