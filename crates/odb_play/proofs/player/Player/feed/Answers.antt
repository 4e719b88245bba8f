use Rattle.std.specs.Prelude.{Ok}
use Rattle.std.proofs.Common.{ℕ, ◌+◌, ◌++◌, List, drop, sym, subst}
use Rattle.std.proofs.lemmas.Result.{err_from_is_err_and}
use Rattle.odb_play.specs.Played.{BytesEnd}
use Rattle.odb_play.proofs.Outside.{touches_then}
use Rattle.odb_play.proofs.Marks.{IsLfAt, lf_at, no_lf}
use Rattle.odb_play.proofs.Feeding.{IsFeeding, feeds_none, feeds_line, feeds_stop, feeds_kept, feeds_not_kept, rest_of}
use Rattle.odb_play.proofs.player.Player.feed.Goals as goal

pub loop-end-init : goal.loop-end-init
loop-end-init g c = feeds_none c.args.self.now.system c.args.self.now.front.items c.args.piece.now (g.H.Outside.world c.args.host.now) c.requires.durable

pub returns-in_err-end_line-clause-bytes : goal.returns-in_err-end_line-clause-bytes
returns-in_err-end_line-clause-bytes g c =
    let p = err_from_is_err_and c.from_residual.result c.from_residual.ensures.1 in
    let at : IsLfAt c.in-Some.end c.loop-end.rest.now = lf_at c.loop-end.rest.now c.in-Some.end (sym c.in-Some.ensures) in
    rw (p.1, p.2)
    (feeds_stop c.args.self.now.system c.args.self.now.front.items c.args.piece.now (g.H.Outside.world c.args.host.now) c.loop-end.self.system c.loop-end.self.front.items c.loop-end.rest.now (g.H.Outside.world c.loop-end.host) c.loop-end.invariant
    (Unit {0}) (Unit {0}) c.in-Some.end at c.in_err-end_line.field-0.0 c.end_line.new.self.system c.end_line.new.self.front.items (g.H.Outside.world c.end_line.new.host)
    (λ m input answers is. c.in_err-end_line.ensures.bytes m input answers is at.before))

pub returns-in_err-end_line-clause-only : goal.returns-in_err-end_line-clause-only
returns-in_err-end_line-clause-only g c =
    touches_then 0 (g.H.Outside.world c.args.host.now) (g.H.Outside.world c.loop-end.host) (g.H.Outside.world c.end_line.new.host) c.loop-end.invariant.only c.end_line.ensures.only

pub loop-end-preserved : goal.loop-end-preserved
loop-end-preserved g c =
    let at : IsLfAt c.in-Some.end c.loop-end.rest.now = lf_at c.loop-end.rest.now c.in-Some.end (sym c.in-Some.ensures) in
    let next : IsFeeding c.args.self.now.system c.args.self.now.front.items c.args.piece.now (g.H.Outside.world c.args.host.now) c.end_line.new.self.system c.end_line.new.self.front.items (drop (c.in-Some.end + 1) c.loop-end.rest.now) (g.H.Outside.world c.end_line.new.host) =
    feeds_line c.args.self.now.system c.args.self.now.front.items c.args.piece.now (g.H.Outside.world c.args.host.now) c.loop-end.self.system c.loop-end.self.front.items c.loop-end.rest.now (g.H.Outside.world c.loop-end.host) c.loop-end.invariant
    c.in-Some.end at c.end_line.new.self.system c.end_line.new.self.front.items (g.H.Outside.world c.end_line.new.host)
    (λ m input answers is. c.in_ok-end_line.ensures.bytes m input answers is at.before) c.end_line.ensures.only c.end_line.ensures.durable c.end_line.ensures.input in
    subst (λ (rest : List ℕ). IsFeeding c.args.self.now.system c.args.self.now.front.items c.args.piece.now (g.H.Outside.world c.args.host.now) c.end_line.new.self.system c.end_line.new.self.front.items rest (g.H.Outside.world c.end_line.new.host))
    (sym (rest_of (c.in-Some.end + 1) c.loop-end.rest.now)) next

pub returns-in_default-extend_front-clause-bytes : goal.returns-in_default-extend_front-clause-bytes
returns-in_default-extend_front-clause-bytes g c =
    feeds_not_kept c.args.self.now.system c.args.self.now.front.items c.args.piece.now (g.H.Outside.world c.args.host.now) c.loop-end.self.system c.loop-end.self.front.items c.loop-end.rest.now (g.H.Outside.world c.loop-end.host) c.loop-end.invariant
    c.loop-end.self.front.items

pub returns-clause-bytes : goal.returns-clause-bytes
returns-clause-bytes g c = λ m input answers is.
    subst (λ (front : List ℕ). BytesEnd {T = Unit {0}} m c.loop-end.self.system front (input ++ c.args.piece.now) answers (Ok (tt {0})) (g.H.Outside.world c.args.host.now) (g.H.Outside.world c.loop-end.host)) (sym c.in-Ok.ensures.ok)
    (feeds_kept c.args.self.now.system c.args.self.now.front.items c.args.piece.now (g.H.Outside.world c.args.host.now) c.loop-end.self.system c.loop-end.self.front.items c.loop-end.rest.now (g.H.Outside.world c.loop-end.host) c.loop-end.invariant
    (no_lf c.loop-end.rest.now (sym c.in_default.ensures)) m input answers is)
