use Rattle.std.proofs.Common.{◌≤◌, ◌+◌, ℕ, length, subst}
use Rattle.std.specs.Prelude.{IfSome}
use Rattle.std.proofs.lemmas.Result.{on_ok_weaker}
use Rattle.odb_device.specs.World.{file_of}
use Rattle.odb_device.specs.Images.{TornFrom}
use Rattle.odb_device.specs.Zeros.{ReadsZero}
use Rattle.odb_device.proofs.OneCall.{write_from}
use Rattle.odb_device.proofs.Zeroing.{written_zero, written_long, zeros_of, length_zeros, are_zeros}
use Rattle.odb_device.proofs.zeros.write_zeros.Goals as goal

pub returns-clause-torn : goal.returns-clause-torn
returns-clause-torn g c =
    let w = g.S.Outside.world c.args.store.now in
    let now = g.S.Outside.world c.write_at.new.self in
    let zeros = zeros_of c.args.size 65536 in
    subst (λ (n : ℕ). TornFrom c.args.at n (file_of c.args.file w) (file_of c.args.file now)) (length_zeros c.args.size 65536 c.requires.size)
    (write_from c.args.file w now c.write_at.result c.args.at zeros c.write_at.ensures.written c.write_at.ensures.torn)

pub returns-clause-zero : goal.returns-clause-zero
returns-clause-zero g c =
    let at = c.args.at in
    let w = g.S.Outside.world c.args.store.now in
    let now = g.S.Outside.world c.write_at.new.self in
    let zeros = zeros_of c.args.size 65536 in
    on_ok_weaker c.write_at.result
    (λ is from low before. subst (λ (n : ℕ). ReadsZero from (at + n) (file_of c.args.file now)) (length_zeros c.args.size 65536 c.requires.size)
    (written_zero from at zeros (file_of c.args.file w) (file_of c.args.file now) (are_zeros c.args.size 65536 c.requires.size) is before))
    c.write_at.ensures.written

pub returns-clause-long : goal.returns-clause-long
returns-clause-long g c =
    let at = c.args.at in
    let w = g.S.Outside.world c.args.store.now in
    let now = g.S.Outside.world c.write_at.new.self in
    let zeros = zeros_of c.args.size 65536 in
    on_ok_weaker c.write_at.result
    (λ is. subst (λ (n : ℕ). IfSome (file_of c.args.file now) (λ f. at + n ≤ length f.bytes)) (length_zeros c.args.size 65536 c.requires.size)
    (written_long c.args.file at zeros w now is))
    c.write_at.ensures.written
