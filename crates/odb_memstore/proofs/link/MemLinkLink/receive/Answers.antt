use Rattle.std.proofs.Common.{ℕ, ◌∙◌, ◌++◌, List, Some, take, drop, sym, ap}
use Rattle.std.proofs.Math.Seq.{take-add}
use Rattle.odb_device.specs.Images.{part}
use Rattle.odb_memstore.specs.Line.{Line}
use Rattle.odb_memstore.proofs.link.MemLinkLink.receive.Goals as goal

pub returns-clause-received : goal.returns-clause-received
returns-clause-received c =
    let r = c.self.inside.received in
    let n = c.copy_from-n.result in
    let input = c.self.inside.input.items in
    let copied = c.copy_from-n.ensures.copied.1 ∙ ap (part r n) c.deref-2.ensures.value in
    ap Some (take-add r n input ∙ ap (λ (t : Line). take t.received t.input ++ take n (drop r input)) c.self.view_is ∙ ap (λ (l : List ℕ). take c.args.self.now.received c.args.self.now.input ++ l) (sym copied))
