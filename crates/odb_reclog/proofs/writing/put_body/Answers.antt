use Rattle.std.proofs.Common.{◌+◌, length, refl, arith}
use Rattle.odb_device.specs.World.{file_of}
use Rattle.odb_device.specs.Images.{TornFrom}
use Rattle.odb_device.proofs.Time.{begins, goes_on, joins, weakens}
use Rattle.odb_device.proofs.Torn.{stays_from}
use Rattle.odb_device.proofs.OneCall.{write_from}
use Rattle.odb_reclog.proofs.Pieces.{from_widens, from_then, writes_then, on_ok}
use Rattle.odb_reclog.proofs.writing.put_body.Goals as goal

pub returns-in_err-write_at-clause-run : goal.returns-in_err-write_at-clause-run
returns-in_err-write_at-clause-run g c =
    let at = c.args.place + 1 in
    let head = c.args.head.now in
    let n = 12 + length c.args.payload.now in
    let w = g.S.Outside.world c.args.store.now in
    let w1 = g.S.Outside.world c.write_at.new.self in
    let P = TornFrom at n (file_of c.args.file w) in
    let from = write_from c.args.file w w1 c.write_at.result at head c.write_at.ensures.written c.write_at.ensures.torn in
    goes_on c.args.file P w w w1 (begins c.args.file P w (stays_from at n _ _ refl)) c.write_at.ensures.call
    (from_widens at (length head) at n (file_of c.args.file w) (file_of c.args.file w1) (omega arith) (omega arith) from)

pub returns-clause-run : goal.returns-clause-run
returns-clause-run g c =
    let at = c.args.place + 1 in
    let m = length c.args.payload.now in
    let n = 12 + m in
    let w = g.S.Outside.world c.args.store.now in
    let w1 = g.S.Outside.world c.write_at.new.self in
    let w2 = g.S.Outside.world c.write_synced.new.store in
    let P = TornFrom at n (file_of c.args.file w) in
    let from = from_widens at (length c.args.head.now) at n (file_of c.args.file w) (file_of c.args.file w1) (omega arith) (omega arith)
    (write_from c.args.file w w1 c.write_at.result at c.args.head.now c.write_at.ensures.written c.write_at.ensures.torn) in
    let one = goes_on c.args.file P w w w1 (begins c.args.file P w (stays_from at n _ _ refl)) c.write_at.ensures.call from in
    joins c.args.file P w w1 w2 one
    (weakens c.args.file (TornFrom (c.args.place + 13) m (file_of c.args.file w1)) P w1 w2
    (λ o torn. from_then at n (file_of c.args.file w) (file_of c.args.file w1) o from (from_widens (c.args.place + 13) m at n (file_of c.args.file w1) o (omega arith) (omega arith) torn))
    c.write_synced.ensures.run)

pub returns-clause-done : goal.returns-clause-done
returns-clause-done g c =
    let w = g.S.Outside.world c.args.store.now in
    let w1 = g.S.Outside.world c.write_at.new.self in
    let w2 = g.S.Outside.world c.write_synced.new.store in
    on_ok _ _ c.write_synced.result
    (writes_then (c.args.place + 1) (c.args.place + 13) c.args.head.now c.args.payload.now (file_of c.args.file w) (file_of c.args.file w1) (file_of c.args.file w2) c.in_ok-write_at.ensures.written)
    c.write_synced.ensures.done
