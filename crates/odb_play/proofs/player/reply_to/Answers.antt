use Rattle.std.proofs.Common.{sym, subst}
use Rattle.odb_device.proofs.Time.{begins}
use Rattle.odb_model.specs.declared.reply.Head.{Head}
use Rattle.odb_model.specs.declared.reply.Reply.{Reply}
use Rattle.odb_play.specs.Played.{Replies}
use Rattle.odb_play.specs.Lines.{head_of, reply_of}
use Rattle.odb_play.proofs.Told.{asked, replies_event, refused}
use Rattle.odb_play.proofs.player.reply_to.Goals as goal

pub returns-in-Ok-clause-answer : goal.returns-in-Ok-clause-answer
returns-in-Ok-clause-answer g c = λ m stands rests.
    let old = g.H.Outside.world c.args.host.now in
    let new = g.H.Outside.world c.step.new.host in
    subst (λ (head : Head). Replies c.args.line.now m head c.step.result c.step.new.self old new) (sym c.head_of.ensures)
    (replies_event c.args.line.now m c.in-Ok.event c.step.result c.step.new.self old new c.in-Ok.ensures.event (c.step.ensures.step m stands rests))

pub returns-in-Err-clause-answer : goal.returns-in-Err-clause-answer
returns-in-Err-clause-answer g c = λ m stands rests.
    let w = g.H.Outside.world c.args.host.now in
    subst (λ (head : Head). Replies c.args.line.now m head c.reply.result c.args.system.now w w) (sym c.head.ensures)
    (subst (λ (reply : Reply). Replies c.args.line.now m (head_of c.in-Err.refusal) reply c.args.system.now w w) (sym c.reply.ensures)
    (refused c.args.line.now m (head_of c.in-Err.refusal) (reply_of c.in-Err.refusal) c.args.system.now w c.in-Err.ensures.refused stands rests))

pub returns-in-Err-clause-only : goal.returns-in-Err-clause-only
returns-in-Err-clause-only g c = begins 0 (λ _. Unit {0}) (g.H.Outside.world c.args.host.now) tt

pub step-requires-clause-asked : goal.step-requires-clause-asked
step-requires-clause-asked g c = asked c.args.line.now c.in-Ok.event c.in-Ok.ensures.event
