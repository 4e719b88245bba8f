use Rattle.odb_frame.proofs.Sends.{sending_call}
use Rattle.odb_frame.proofs.sending.send_all.Goals as goal

pub loop-sent-preserved : goal.loop-sent-preserved
loop-sent-preserved g c =
    let call = c.in_ok-sent.ensures in
    sending_call c.args.bytes.now (g.L.Link.wire c.args.link.now) (g.L.Link.wire c.loop-sent.link) (g.L.Link.wire c.send.new.self)
    c.loop-sent.sent c.in_ok-sent.field-0 c.loop-sent.invariant call.bound.1 call.input call.sent call.count
