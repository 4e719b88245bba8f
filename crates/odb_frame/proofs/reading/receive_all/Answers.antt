use Rattle.std.proofs.Common.{rules}
use Rattle.odb_frame.proofs.Receiving.{ends_later, receiving_call}
use Rattle.odb_frame.proofs.reading.receive_all.Goals as goal

pub loop-received-preserved : goal.loop-received-preserved
loop-received-preserved g c =
    let call = c.in_ok-n.ensures in
    let later = ends_later c.in_ok-n.n _ _ (search rules) call.ended in
    receiving_call c.loop-received.out c.receive.new.out _ (g.L.Link.wire c.args.link.now) (g.L.Link.wire c.loop-received.link) (g.L.Link.wire c.receive.new.self)
    c.loop-received.received c.in_ok-n.n c.loop-received.invariant call.bound call.output call.received later call.count
