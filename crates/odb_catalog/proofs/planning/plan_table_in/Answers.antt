use Rattle.std.proofs.Common.{◌≡◌, true, None, not, length, nat_lt, ◌||◌, rules, sym, ◌∙◌}
use Rattle.std.specs.List.{list_any, list_all}
use Rattle.odb_model.specs.Dictionary.{names_differ}
use Rattle.odb_model.specs.Definitions.{text_names, is_among, is_out_of_range}
use Rattle.odb_catalog.specs.Planning.{text_refusal}
use Rattle.odb_catalog.proofs.After.{or_first, not_not, at_most}
use Rattle.odb_catalog.proofs.Planned.{none_by_text}
use Rattle.odb_catalog.proofs.Widths.{key_short}
use Rattle.odb_catalog.proofs.planning.plan_table_in.Goals as goal

pub creation_writes-requires-clause-short : goal.creation_writes-requires-clause-short
creation_writes-requires-clause-short g c =
    let columns = c.args.columns.now in
    let key = c.args.key.now in
    let named : names_differ (text_names columns) ≡ true = search rules in
    let none : text_refusal columns key ≡ None = sym c.text_refusal.ensures ∙ c.in_default.is in
    let tests = none_by_text (nat_lt 15 (length columns) || not (names_differ key)) (list_any (λ x. is_out_of_range x.length) columns) (not (list_all (is_among (text_names columns)) key)) none in
    let count = or_first (nat_lt 15 (length columns)) (not (names_differ key)) tests.0 in
    key_short columns key named (not_not (names_differ key) count.1) (not_not (list_all (is_among (text_names columns)) key) tests.2) (at_most (length columns) count.0)
