use Rattle.std.proofs.Common.{◌≡◌, ◌+◌, ◌*◌, ◌/◌, ℕ, length, refl, take, subst, arith, length-take}
use Rattle.odb_device.specs.World.{file_of}
use Rattle.odb_device.specs.Calls.{HasRead}
use Rattle.odb_device.proofs.Writing.{on_ok}
use Rattle.odb_slots.specs.Answers.{AreItems}
use Rattle.odb_slots.proofs.Finding.{reads_one, items_widen, piece_told}
use Rattle.odb_slots.proofs.scanning.read_piece.Goals as goal

pub returns-clause-run : goal.returns-clause-run
returns-clause-run g c = reads_one c.args.file (g.S.Outside.world c.args.store.now) (g.S.Outside.world c.read_at.new.self) c.read_at.ensures.call c.read_at.ensures.same

pub returns-clause-sound : goal.returns-clause-sound
returns-clause-sound g c =
    let size = length (take c.in_ok-n.n c.read_at.new.out) in
    let long : length c.read_at.new.out ≡ 65536 = omega (arith, c.read_at.auto.out, c.requires.size) in
    let items = c.take_slots.new.items.items in
    on_ok (AreItems (64 * c.args.number + size / 1024) items) (AreItems (64 * (c.args.number + 1)) items) c.take_slots.result
    (items_widen (64 * c.args.number + size / 1024) (64 * (c.args.number + 1)) items (omega (arith, length-take c.in_ok-n.n c.read_at.new.out, long))) c.take_slots.ensures.sound

pub returns-clause-answer : goal.returns-clause-answer
returns-clause-answer g c =
    let file = file_of c.args.file (g.S.Outside.world c.args.store.now) in
    piece_told file c.args.number c.in_ok-n.n c.in_ok-n.n c.read_at.new.out c.args.items.now.items c.take_slots.new.items.items c.take_slots.result
    (subst (λ (n : ℕ). HasRead file (1024 + 65536 * n) c.in_ok-n.n c.read_at.new.out) c.from.ensures c.in_ok-n.ensures.bytes)
    (omega (arith, c.read_at.auto.out, c.requires.size)) refl c.take_slots.ensures.answer
