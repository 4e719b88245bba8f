use Rattle.std.proofs.Common.{rules, ◌≡◌, ℕ, List, length, subst}
use Rattle.byteorder.specs.Endian.{big_bytes}
use Rattle.odb_device.specs.Connections.{Sends}
use Rattle.odb_frame.specs.Frames.{frame}
use Rattle.odb_frame.specs.Transfers.{BreaksOff}
use Rattle.odb_device.proofs.Time.{on_err}
use Rattle.odb_frame.proofs.Sends.{breaks_first, breaks_second}
use Rattle.odb_frame.proofs.sending.write_frame.Goals as goal

pub returns-in_err-send_all-clause-broken_off : goal.returns-in_err-send_all-clause-broken_off
returns-in_err-send_all-clause-broken_off g c =
    let body = c.args.body.now in
    let w = g.L.Link.wire c.args.link.now in
    let w1 = g.L.Link.wire c.send_all.new.link in
    let head : c.write_u32.new.buf ≡ big_bytes 4 (length body) = search rules in
    on_err (BreaksOff (frame body) w w1) c.from_residual.result (breaks_first (big_bytes 4 (length body)) body w w1 (subst (λ (l : List ℕ). BreaksOff l w w1) head c.in_err-send_all.ensures.broken_off))

pub returns-in_err-send_all-2-clause-broken_off : goal.returns-in_err-send_all-2-clause-broken_off
returns-in_err-send_all-2-clause-broken_off g c =
    let body = c.args.body.now in
    let w = g.L.Link.wire c.args.link.now in
    let w1 = g.L.Link.wire c.send_all.new.link in
    let head : c.write_u32.new.buf ≡ big_bytes 4 (length body) = search rules in
    let w2 = g.L.Link.wire c.send_all-2.new.link in
    on_err (BreaksOff (frame body) w w2) c.from_residual-in_err-send_all-2.result
    (breaks_second (big_bytes 4 (length body)) body w w1 w2 (subst (λ (l : List ℕ). Sends l w w1) head c.in_ok-send_all.ensures.sent) c.in_err-send_all-2.ensures.broken_off)
