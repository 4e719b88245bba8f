use Rattle.std.proofs.Common.{◌≡◌, ◌+◌, ℕ, length, subst, arith}
use Rattle.odb_device.specs.World.{file_of}
use Rattle.odb_device.specs.Zeros.{ReadsZero}
use Rattle.odb_reclog.proofs.Zeros.{read_zero}
use Rattle.odb_reclog.proofs.writing.is_zero.Goals as goal

pub returns-clause-zero : goal.returns-clause-zero
returns-clause-zero g c = λ zero.
    let file = file_of c.args.file (g.S.Outside.world c.args.store.now) in
    let long : length c.read_at.new.out ≡ length c.args.piece.now = c.read_at.auto.out in
    subst (λ (n : ℕ). ReadsZero c.args.at (c.args.at + n) file) long
    (read_zero file c.args.at c.in_ok-n.n c.read_at.new.out c.in_ok-n.ensures.bytes (omega (arith, long)) (c.are_zeros.ensures.0 zero))
