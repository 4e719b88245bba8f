use Rattle.std.proofs.Common.{◌≡◌, ℕ, subst, arith}
use Rattle.std.proofs.lemmas.Result.{on_ok_weaker}
use Rattle.odb_logdb.proofs.Zeroed.{IsZeroed, zeroed_run, zeroed_more, zeroed_sync, zeroed_kept}
use Rattle.odb_logdb.proofs.finishing.zero_range.Goals as goal

pub returns-in_err-write_zeros-clause-run : goal.returns-in_err-write_zeros-clause-run
returns-in_err-write_zeros-clause-run g c =
    zeroed_run (g.S.Outside.world c.args.store.now) (g.S.Outside.world c.loop-at.store) (g.S.Outside.world c.write_zeros.new.store) c.args.start c.args.end c.loop-at.at c.min-size.result c.loop-at.invariant
    (omega (arith, c.min-size.ensures)) c.write_zeros.ensures.call c.write_zeros.ensures.torn

pub loop-at-preserved : goal.loop-at-preserved
loop-at-preserved g c =
    zeroed_more (g.S.Outside.world c.args.store.now) (g.S.Outside.world c.loop-at.store) (g.S.Outside.world c.write_zeros.new.store) c.args.start c.args.end c.loop-at.at c.min-size.result c.loop-at.invariant
    (omega (arith, c.min-size.ensures)) c.write_zeros.ensures.call c.write_zeros.ensures.torn c.in_ok-write_zeros.ensures.zero c.in_ok-write_zeros.ensures.long

pub returns-clause-run : goal.returns-clause-run
returns-clause-run g c =
    zeroed_sync (g.S.Outside.world c.args.store.now) (g.S.Outside.world c.loop-at.store) (g.S.Outside.world c.sync.new.self) c.args.start c.args.end c.loop-at.at c.sync.result c.loop-at.invariant c.sync.ensures.call
    (g.met.S.Store.reads_image c.loop-at.store 1) c.sync.ensures.kept c.sync.ensures.unsettled

pub returns-clause-zero : goal.returns-clause-zero
returns-clause-zero g c =
    let w = g.S.Outside.world c.args.store.now in
    let mid = g.S.Outside.world c.loop-at.store in
    let all : c.loop-at.at ≡ c.args.end = omega (arith, c.loop-at.invariant.high, c.loop-at-test.false) in
    on_ok_weaker c.sync.result
    (λ keeps. zeroed_kept w mid (g.S.Outside.world c.sync.new.self) c.args.start c.args.end c.requires.0 (subst (λ (n : ℕ). IsZeroed w mid c.args.start c.args.end n) all c.loop-at.invariant) keeps)
    c.sync.ensures.kept
