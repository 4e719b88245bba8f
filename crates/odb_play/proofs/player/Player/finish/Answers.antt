use Rattle.std.proofs.Common.{List, ℕ, subst, ◌∙◌, ap, arith}
use Rattle.std.specs.Vec.{vec_len}
use Rattle.odb_model.specs.Script.{open_line}
use Rattle.odb_machine.specs.Play.{machine_after}
use Rattle.odb_play.specs.LineFront.{read_of_last}
use Rattle.odb_play.specs.Played.{LineEnds}
use Rattle.odb_play.proofs.Ends.{finish_none, finish_line, open_none, open_some, empty, not_empty}
use Rattle.odb_play.proofs.Told.{fronts_tell}
use Rattle.odb_play.proofs.player.Player.finish.Goals as goal

pub returns-then-is_empty-clause-bytes : goal.returns-then-is_empty-clause-bytes
returns-then-is_empty-clause-bytes g c = λ m input answers at.
    let front = c.args.self.now.front in
    finish_none m c.args.self.now.system front.items input answers (tt {0}) (g.H.Outside.world c.args.host.now) at
    (open_none front.items (open_line input) at.line (empty (vec_len front) c.is_empty.result front.items c.is_empty.ensures c.if-is_empty.true (omega (arith, front.ok.0))))

pub returns-clause-bytes : goal.returns-clause-bytes
returns-clause-bytes g c = λ m input answers at.
    let front = c.args.self.now.front in
    let first = open_some (open_line input) front.items at.line (not_empty (vec_len front) c.is_empty.result front.items c.as_slice.result.now c.is_empty.ensures c.if-is_empty.false c.as_slice.ensures.len c.as_slice.ensures.value) in
    finish_line fronts_tell m c.args.self.now.system front.items first.0 first.1 input answers c.answer.result c.answer.new.system (g.H.Outside.world c.args.host.now) (g.H.Outside.world c.answer.new.host) at first.2
    (subst (λ (line : List ℕ). LineEnds line (machine_after m answers) c.answer.result c.answer.new.system (g.H.Outside.world c.args.host.now) (g.H.Outside.world c.answer.new.host))
    (c.last_line.ensures ∙ ap read_of_last c.as_slice.ensures.value) (c.answer.ensures.answer (machine_after m answers) at.stands at.rests))
