use Rattle.std.proofs.Common.{length, arith}
use Rattle.odb_device.specs.World.{file_of}
use Rattle.odb_transdb.proofs.Bare.{none_missing}
use Rattle.odb_transdb.proofs.opening.first_nonzero.Goals as goal

pub returns-clause-missing : goal.returns-clause-missing
returns-clause-missing g c =
    none_missing _ (file_of 0 (g.S.Outside.world c.args.store.now)) c.args.at c.in_ok-n.n (length c.args.piece.now) c.read_at.new.out c.in_ok-n.ensures.bytes c.read_at.auto.out
    (omega (arith, c.if-n-piece.false, c.read_at.auto.out))
