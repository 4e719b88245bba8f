use Rattle.std.proofs.Common.{ap, sym, ◌∙◌, Option}
use Rattle.odb_model.specs.declared.predicate.Predicate.{Predicate}
use Rattle.odb_model.specs.Table.{in_columns}
use Rattle.odb_model.specs.Truth.{is_true, matches}
use Rattle.odb_eval.proofs.filter.Filter.of_where.Goals as goal

pub returns-in_ok-of-in-Some : goal.returns-in_ok-of-in-Some
returns-in_ok-of-in-Some c =
    let t = c.args.table.now in
    λ key row. ap is_true (c.in_ok-of-in-Some.ensures key row) ∙ ap (λ (p : Option Predicate). matches t.columns p (in_columns t key row)) (sym c.in-Some.is)
