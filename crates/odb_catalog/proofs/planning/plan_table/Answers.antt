use Rattle.std.proofs.Common.{◌≡◌, IfErr, ap, sym, subst, ◌∙◌}
use Rattle.odb_model.specs.State.{State}
use Rattle.odb_model.specs.Databanks.{databank_named, next_number}
use Rattle.odb_model.specs.Definitions.{Planned, plan_unless, creation_refusal, creation_writes, created_in}
use Rattle.odb_catalog.specs.Planning.{IsRefusal}
use Rattle.odb_catalog.proofs.Planned.{bank_there, test_false}
use Rattle.odb_catalog.proofs.planning.plan_table.Goals as goal
use Rattle.odb_catalog.proofs.planning.plan_table.Goals.{After-plan_table_in}
use Rattle.odb_catalog.proofs.planning.plan_table.Given as given

module _ (g : given.Over) (c : After-plan_table_in g) where
  abbrev s : State
  s = g.R.RowSource.state c.args.rows.now

  abbrev plan_on : State → Planned
  plan_on v = plan_unless (creation_refusal v c.args.name.now c.args.columns.now c.args.key.now) (creation_writes (next_number v) c.in-Some.bank c.args.name.now c.args.columns.now c.args.key.now)

  same : plan_on (g.R.RowSource.state c.databank_named.new.rows) ≡ created_in s (databank_named s c.args.bank.now) c.args.name.now c.args.columns.now c.args.key.now
  same =
      ap plan_on c.databank_named.ensures.state
      ∙ sym (bank_there s (databank_named s c.args.bank.now) c.in-Some.bank c.args.name.now c.args.columns.now c.args.key.now (sym c.in-Some.is ∙ c.in_ok-bank.ensures.number) (test_false c.in-Some.bank 2 c.if-bank-eq-SYSDB.false))

pub returns-clause-refused : goal.returns-clause-refused
returns-clause-refused g c =
    subst (λ (p : Planned). IfErr c.plan_table_in.result (IsRefusal p)) (same g c) c.plan_table_in.ensures.refused
