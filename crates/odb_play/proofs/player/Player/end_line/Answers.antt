use Rattle.std.proofs.Common.{ℕ, List, [], ◌∷◌, ◌++◌, sym, ap, subst, ◌∙◌}
use Rattle.odb_machine.specs.Play.{machine_after}
use Rattle.odb_play.specs.LineFront.{read_of_ended}
use Rattle.odb_play.specs.Played.{LineEnds, BytesEnd}
use Rattle.odb_play.proofs.Lines.{line_ended}
use Rattle.odb_play.proofs.Ends.{bytes_not_kept}
use Rattle.odb_play.proofs.Told.{fronts_tell}
use Rattle.odb_play.proofs.player.Player.end_line.Goals as goal

pub returns-clause-bytes : goal.returns-clause-bytes
returns-clause-bytes g c = λ m input answers at none.
    let shown = c.ended_line-line.ensures ∙ ap read_of_ended (c.as_slice.ensures.value ∙ c.in-Ok.ensures.ok) in
    subst (λ (front : List ℕ). BytesEnd m c.answer-ended.new.system front (input ++ (c.args.part.now ++ 10 ∷ [])) answers c.answer-ended.result (g.H.Outside.world c.args.host.now) (g.H.Outside.world c.answer-ended.new.host)) (sym c.clear.ensures.items)
    (line_ended fronts_tell m c.args.self.now.system c.args.self.now.front.items input c.args.part.now answers c.answer-ended.result c.answer-ended.new.system (g.H.Outside.world c.args.host.now) (g.H.Outside.world c.answer-ended.new.host) at none
    (subst (λ (line : List ℕ). LineEnds line (machine_after m answers) c.answer-ended.result c.answer-ended.new.system (g.H.Outside.world c.args.host.now) (g.H.Outside.world c.answer-ended.new.host)) shown
    (c.answer-ended.ensures.answer (machine_after m answers) at.stands at.rests)))

pub returns-in_default-clause-bytes : goal.returns-in_default-clause-bytes
returns-in_default-clause-bytes g c = λ m input answers at none.
    bytes_not_kept (Unit {0}) m c.args.self.now.system c.args.self.now.system c.args.self.now.front.items c.args.self.now.front.items input (c.args.part.now ++ 10 ∷ []) answers
    (g.H.Outside.world c.args.host.now) at
