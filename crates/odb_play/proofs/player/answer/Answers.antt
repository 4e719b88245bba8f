use Rattle.std.proofs.Common.{◌∙◌, sym}
use Rattle.odb_play.proofs.Outside.{touches_line}
use Rattle.odb_play.proofs.Told.{answer_said, answer_breaks, answer_untold}
use Rattle.odb_play.proofs.player.answer.Goals as goal

pub returns-in_default-clause-answer : goal.returns-in_default-clause-answer
returns-in_default-clause-answer g c = λ m stands rests.
    answer_untold c.args.line.now m c.reply_to-response.result.head c.reply_to-response.result.reply c.reply_to-response.new.system (λ _. Unit {0}) (g.H.Outside.world c.args.host.now) (g.H.Outside.world c.reply_to-response.new.host)
    rests (c.reply_to-response.ensures.answer m stands rests) c.reply_to-response.ensures.only (Unit {0})

pub returns-in-Ok-say_all-clause-answer : goal.returns-in-Ok-say_all-clause-answer
returns-in-Ok-say_all-clause-answer g c = λ m stands rests.
    answer_said c.args.line.now m c.reply_to-response.result.head c.reply_to-response.result.reply c.reply_to-response.new.system (λ _. Unit {0}) (g.H.Outside.world c.args.host.now) (g.H.Outside.world c.reply_to-response.new.host)
    rests (c.reply_to-response.ensures.answer m stands rests) c.reply_to-response.ensures.only
    c.as_slice.result.now (g.H.Outside.world c.say_all.new.console) (c.as_slice.ensures ∙ c.in-Ok.ensures.text) (λ front rest k split told. c.in-Ok.ensures.tells front rest k (sym c.as_slice.ensures ∙ split) told)
    c.say_all.ensures.moments (tt {0}) c.in-Ok-say_all.ensures.said

pub returns-clause-answer : goal.returns-clause-answer
returns-clause-answer g c = λ m stands rests.
    answer_breaks c.args.line.now m c.reply_to-response.result.head c.reply_to-response.result.reply c.reply_to-response.new.system (λ _. Unit {0}) (g.H.Outside.world c.args.host.now) (g.H.Outside.world c.reply_to-response.new.host)
    rests (c.reply_to-response.ensures.answer m stands rests) c.reply_to-response.ensures.only
    c.as_slice.result.now (g.H.Outside.world c.say_all.new.console) (c.as_slice.ensures ∙ c.in-Ok.ensures.text) (λ front rest k split told. c.in-Ok.ensures.tells front rest k (sym c.as_slice.ensures ∙ split) told)
    c.say_all.ensures.moments (Unit {0}) c.in-Err.ensures.broken_off

pub returns-in-Ok-say_all-clause-only : goal.returns-in-Ok-say_all-clause-only
returns-in-Ok-say_all-clause-only g c =
    touches_line (λ _. Unit {0}) c.as_slice.result.now (g.H.Outside.world c.args.host.now) (g.H.Outside.world c.reply_to-response.new.host) (g.H.Outside.world c.say_all.new.console) c.reply_to-response.ensures.only c.say_all.ensures.moments

pub returns-clause-only : goal.returns-clause-only
returns-clause-only g c =
    touches_line (λ _. Unit {0}) c.as_slice.result.now (g.H.Outside.world c.args.host.now) (g.H.Outside.world c.reply_to-response.new.host) (g.H.Outside.world c.say_all.new.console) c.reply_to-response.ensures.only c.say_all.ensures.moments
