use Rattle.std.proofs.Common.{◌≡◌, ◌∙◌, ap, subst}
use Rattle.odb_model.specs.Definitions.{planned}
use Rattle.odb_model.specs.State.{State}
use Rattle.odb_keytable.specs.Committed.{Committed}
use Rattle.odb_system.specs.Defining.{IsRefusedBy}
use Rattle.odb_system.proofs.defining.planned_writes.Goals as goal

pub returns-in-Err-clause-refused : goal.returns-in-Err-clause-refused
returns-in-Err-clause-refused c =
    let seen : c.rows.result.table.now ≡ c.args.rows.now.state = c.rows.ensures ∙ ap (λ (rows : Committed). rows.state) c.in-Ok.ensures.ok in
    subst (λ (s : State). IsRefusedBy (planned c.args.statement.now s) c.refusal_of.result) seen
    (c.refusal_of.ensures (planned c.args.statement.now c.rows.result.table.now) c.in-Err.ensures.refused)
