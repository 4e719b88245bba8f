use Rattle.std.proofs.Common.{List, ℕ, subst, sym}
use Rattle.odb_model.specs.declared.statement.Statement.{Statement}
use Rattle.odb_model.specs.declared.statement.ColumnText.{ColumnText}
use Rattle.odb_catalog.specs.Planning.{IsTableText}
use Rattle.odb_catalog.proofs.Spelled.{TextOf, spelled_text}
use Rattle.odb_catalog.proofs.planning.plan_definition.Goals as goal

pub plan_table-requires : goal.plan_table-requires
plan_table-requires g c =
    let text : IsTableText c.in-CreateTable.name c.in-CreateTable.columns c.in-CreateTable.key = subst (λ (st : Statement). TextOf st) c.in-CreateTable.is (spelled_text c.args.statement.now c.requires.spelled) in
    subst (λ (cs : List ColumnText). IsTableText c.in-CreateTable.name cs c.as_slice-in-CreateTable.result.now) (sym c.as_slice.ensures)
    (subst (λ (ks : List (List ℕ)). IsTableText c.in-CreateTable.name c.in-CreateTable.columns ks) (sym c.as_slice-in-CreateTable.ensures) text)
