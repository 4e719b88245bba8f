use Rattle.std.proofs.Common.{◌≡◌, ℕ, ◌+◌, ◌-◌, List, length, ap, arith}
use Rattle.std.proofs.lemmas.Slice.{drop-put_mid}
use Rattle.odb_slots.proofs.bodies.put.Goals as goal

pub returns-clause-rest : goal.returns-clause-rest
returns-clause-rest c =
    let n = length c.args.bytes.now in
    let same : length c.copy_from_slice.new.self ≡ n = ap (λ (l : List ℕ). length l) c.copy_from_slice.ensures.after in
    let size : c.args.at + n - c.args.at ≡ n = omega arith in
    drop-put_mid c.args.at (c.args.at + n - c.args.at) c.args.out.now c.copy_from_slice.new.self (c.args.at + n) (omega arith) (omega (arith, c.requires)) (omega (arith, same, size))
