use Rattle.std.proofs.Common.{rules, ◌≡◌, ℕ, List, ◌++◌, length, take, drop, Option, Some, Result, Ok, Err, subst, sym, ap, ◌∙◌}
use Rattle.std.proofs.Math.Seq.{take-append_seam}
use Rattle.odb_frame.specs.declared.error.FrameError.{FrameError}
use Rattle.odb_frame.specs.declared.error.FrameError.TheVariants.{LinkFault, NoMemory}
use Rattle.odb_frame.specs.Transfers.{Answers, ReceivesFewer}
use Rattle.odb_frame.proofs.Answering.{HasHead, has_head, cut_head, long_is, no_memory, fault_in_body, cut_body, whole_is}
use Rattle.odb_frame.proofs.reading.read_frame.Goals as goal

pub returns-then-received-lt4-clause-frame : goal.returns-then-received-lt4-clause-frame
returns-then-received-lt4-clause-frame g c =
    let all = c.in_ok-received.ensures in
    cut_head c.receive_all.new.out c.in_ok-received.received (g.L.Link.wire c.args.link.now) (g.L.Link.wire c.receive_all.new.link) all.bound (search rules) (search rules) all.received

pub returns-then-length-gt-MOST_BODY-clause-frame : goal.returns-then-length-gt-MOST_BODY-clause-frame
returns-then-length-gt-MOST_BODY-clause-frame g c =
    let w = g.L.Link.wire c.args.link.now in
    let w1 = g.L.Link.wire c.receive_all.new.link in
    let head : HasHead c.length_in-length.result w w1 = has_head c.receive_all.new.out c.in_ok-received.received c.length_in-length.result w w1 c.length_in-length.ensures (search rules) (search rules) (search rules) c.in_ok-received.ensures.received in
    long_is c.length_in-length.result w w1 head (search rules)

pub returns-in_err-body-clause-frame : goal.returns-in_err-body-clause-frame
returns-in_err-body-clause-frame g c =
    let w = g.L.Link.wire c.args.link.now in
    let w1 = g.L.Link.wire c.receive_all.new.link in
    let head : HasHead c.length_in-length.result w w1 = has_head c.receive_all.new.out c.in_ok-received.received c.length_in-length.result w w1 c.length_in-length.ensures (search rules) (search rules) (search rules) c.in_ok-received.ensures.received in
    let same : ◌≡◌ {A = Result (Option (List ℕ)) FrameError} (Err NoMemory) c.from_residual-in_err-body.result = search rules in
    subst (λ (r : Result (Option (List ℕ)) FrameError). Answers r w w1) same (no_memory c.length_in-length.result w w1 head (search rules))

pub returns-in_err-receive_all-clause-frame : goal.returns-in_err-receive_all-clause-frame
returns-in_err-receive_all-clause-frame g c =
    let w = g.L.Link.wire c.args.link.now in
    let w1 = g.L.Link.wire c.receive_all.new.link in
    let w2 = g.L.Link.wire c.receive_all-2.new.link in
    let head : HasHead c.length_in-length.result w w1 = has_head c.receive_all.new.out c.in_ok-received.received c.length_in-length.result w w1 c.length_in-length.ensures (search rules) (search rules) (search rules) c.in_ok-received.ensures.received in
    let same : ◌≡◌ {A = Result (Option (List ℕ)) FrameError} (Err LinkFault) c.from_residual-in_err-receive_all.result = search rules in
    let long : length c.receive_all-2.new.out ≡ c.length_in-length.result = search rules in
    subst (λ (r : Result (Option (List ℕ)) FrameError). Answers r w w2) same
    (fault_in_body c.length_in-length.result w w1 w2 head (search rules) (subst (λ (n : ℕ). ReceivesFewer n w1 w2) long c.in_err-receive_all.ensures.failed))

pub returns-then-branch-len-clause-frame : goal.returns-then-branch-len-clause-frame
returns-then-branch-len-clause-frame g c =
    let w = g.L.Link.wire c.args.link.now in
    let w1 = g.L.Link.wire c.receive_all.new.link in
    let w2 = g.L.Link.wire c.receive_all-2.new.link in
    let head : HasHead c.length_in-length.result w w1 = has_head c.receive_all.new.out c.in_ok-received.received c.length_in-length.result w w1 c.length_in-length.ensures (search rules) (search rules) (search rules) c.in_ok-received.ensures.received in
    let long : length c.receive_all-2.new.out ≡ c.length_in-length.result = search rules in
    cut_body c.length_in-length.result c.in_ok-receive_all.field-0 c.receive_all-2.new.out w w1 w2 head (search rules) long (search rules) c.in_ok-receive_all.ensures.received

pub returns-clause-frame : goal.returns-clause-frame
returns-clause-frame g c =
    let w = g.L.Link.wire c.args.link.now in
    let w1 = g.L.Link.wire c.receive_all.new.link in
    let w2 = g.L.Link.wire c.receive_all-2.new.link in
    let head : HasHead c.length_in-length.result w w1 = has_head c.receive_all.new.out c.in_ok-received.received c.length_in-length.result w w1 c.length_in-length.ensures (search rules) (search rules) (search rules) c.in_ok-received.ensures.received in
    let long : length c.receive_all-2.new.out ≡ c.length_in-length.result = search rules in
    let out = c.receive_all-2.new.out in
    let behind : List ℕ = drop (length out) c.in_ok-body.body.items in
    let all : length out ≡ c.in_ok-body.body.len = search rules in
    let same : out ≡ c.from_vec.result = sym (take-append_seam out behind) ∙ ap (λ (k : ℕ). take k (out ++ behind)) all ∙ sym c.from_vec.ensures in
    subst (λ (body : List ℕ). Answers (Ok (Some body)) w w2) same
    (whole_is c.length_in-length.result c.in_ok-receive_all.field-0 c.receive_all-2.new.out w w1 w2 head (search rules) long (search rules) c.in_ok-receive_all.ensures.received)
