use Rattle.std.proofs.Common.{◌≡◌, ◌+◌, ◌-◌, List, ℕ, sym, subst, rules}
use Rattle.odb_device.specs.Images.{part}
use Rattle.odb_reclog.proofs.Collecting.{Collected, collected_more}
use Rattle.odb_reclog.proofs.plain.log_of.Goals as goal

pub loop-next-preserved : goal.loop-next-preserved
loop-next-preserved c =
    let place = c.loop-next.place in
    let next = c.in-Some.next in
    let payload : c.from_vec.result ≡ part (place + 13) (next - (place + 13)) c.args.bytes.now = search rules in
    subst (λ (l : List (List ℕ)). Collected c.args.start c.args.end c.args.first c.args.bytes.now l next (c.loop-next.number + 1))
    (sym {A = List (List ℕ)} c.in_ok-push.ensures.items)
    (collected_more c.args.start c.args.end c.args.first c.args.bytes.now c.loop-next.payloads.items c.from_vec.result place
    c.loop-next.number next c.loop-next.invariant c.in-Some.ensures.next
    c.in-Some.ensures.forward.0 c.in-Some.ensures.forward.1 payload)
