use Rattle.std.proofs.Common.{◌+◌, ◌*◌, arith}
use Rattle.std.proofs.lemmas.Result.{on_ok_weaker}
use Rattle.odb_extent.proofs.Blank.{zeroing_none, zeroing_write, zeroing_more, zeroing_sync, zeroing_kept}
use Rattle.odb_extent.proofs.zeroing.zero_extent.Goals as goal

pub loop-piece-init : goal.loop-piece-init
loop-piece-init g c = zeroing_none c.args.file c.args.limit (g.S.Outside.world c.args.store.now)

pub returns-in_err-write_zeros-clause-run : goal.returns-in_err-write_zeros-clause-run
returns-in_err-write_zeros-clause-run g c =
    let k = c.loop-piece.piece in
    zeroing_write c.args.file c.args.limit (65536 * k) (g.S.Outside.world c.args.store.now) (g.S.Outside.world c.loop-piece.store) (g.S.Outside.world c.write_zeros.new.store) c.loop-piece.invariant
    (c.content_end-start.result + 65536 * k) 65536 (omega (arith, c.content_end-start.ensures)) (omega arith) c.write_zeros.ensures.call c.write_zeros.ensures.torn

pub loop-piece-preserved : goal.loop-piece-preserved
loop-piece-preserved g c =
    let k = c.loop-piece.piece in
    zeroing_more c.args.file c.args.limit (65536 * k) (g.S.Outside.world c.args.store.now) (g.S.Outside.world c.loop-piece.store) (g.S.Outside.world c.write_zeros.new.store) c.loop-piece.invariant
    (c.content_end-start.result + 65536 * k) 65536 (65536 * (k + 1)) (omega (arith, c.content_end-start.ensures)) (omega arith) (omega arith) c.write_zeros.ensures.call c.write_zeros.ensures.torn
    c.in_ok-write_zeros.ensures.zero c.in_ok-write_zeros.ensures.long

pub returns-clause-run : goal.returns-clause-run
returns-clause-run g c =
    zeroing_sync c.args.file c.args.limit (65536 * c.loop-piece.piece) (g.S.Outside.world c.args.store.now) (g.S.Outside.world c.loop-piece.store) (g.S.Outside.world c.sync.new.self) c.loop-piece.invariant
    c.sync.result c.sync.ensures.call (g.met.S.Store.reads_image c.loop-piece.store c.args.file) c.sync.ensures.kept c.sync.ensures.unsettled

pub returns-clause-zero : goal.returns-clause-zero
returns-clause-zero g c =
    on_ok_weaker c.sync.result
    (λ keeps.
    zeroing_kept c.args.file c.args.limit (65536 * c.loop-piece.piece) (g.S.Outside.world c.args.store.now) (g.S.Outside.world c.loop-piece.store) (g.S.Outside.world c.sync.new.self) c.loop-piece.invariant
    (omega arith) keeps)
    c.sync.ensures.kept
