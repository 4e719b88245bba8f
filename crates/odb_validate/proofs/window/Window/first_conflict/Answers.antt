use Rattle.std.proofs.Common.{ap, sym, ◌∙◌, Ok}
use Rattle.odb_validate.specs.Window.{Windowed}
use Rattle.odb_validate.specs.Validation.{validated}
use Rattle.odb_validate.proofs.Verdicts.{validated-unread, validated-above}
use Rattle.odb_validate.proofs.window.Window.first_conflict.Goals as goal

pub returns-in-None : goal.returns-in-None
returns-in-None c =
    sym (validated-unread c.args.self.now.start c.args.self.now.entries c.args.reads.now (sym c.in-None.ensures))

pub returns-in-Some-2 : goal.returns-in-Some-2
returns-in-Some-2 c =
    ap Ok c.conflict_from.ensures
    ∙ sym (validated-above c.self.inside.start c.self.inside.entries.items c.args.reads.now c.in-Some.oldest c.self.invariant.0.numbered (sym c.in-Some.ensures) c.if-oldest-self.false)
    ∙ ap (λ (w : Windowed). validated w.start w.entries c.args.reads.now) c.self.view_is
