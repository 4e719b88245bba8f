use Rattle.std.proofs.Common.{◌≡◌, []}
use Rattle.odb_generate.proofs.Lines.{goes_on, none_left}
use Rattle.odb_generate.proofs.generator.Place.go_on.Goals as goal

pub returns-then-self-2-clause-left : goal.returns-then-self-2-clause-left
returns-then-self-2-clause-left c =
    let old = c.args.self.now in
    let empty : old.steps.now ≡ [] = none_left old.steps.now c.is_empty.result c.is_empty.ensures c.if-not-is_empty.false in
    goes_on old.round old.rounds old.is_closing old.steps.now c.steps_of-self.result.now c.if-self.false c.if-self-2.true empty c.steps_of-self.ensures
