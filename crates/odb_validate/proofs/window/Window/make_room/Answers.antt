use Rattle.std.proofs.Common.{◌<◌, ap, subst, ◌∙◌}
use Rattle.odb_model.specs.Window.{start_within}
use Rattle.odb_validate.specs.Window.{Windowed, forget}
use Rattle.odb_validate.proofs.Steps.{forget-more}
use Rattle.odb_validate.proofs.window.Window.make_room.Goals as goal

pub loop-self-preserved : goal.loop-self-preserved
loop-self-preserved c =
    let most = c.args.most in
    ap (λ (w : Windowed). forget w (start_within most w.entries)) c.forget_first.ensures
    ∙ forget-more c.loop-self.self most (subst (λ n. most < n) c.writes.ensures c.loop-self-test.true)
    ∙ c.loop-self.invariant
