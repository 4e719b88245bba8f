-- The rows of a table that a WHERE keeps, among all rows.
use Rattle.std.proofs.Common.{◌≡◌, Bool, true, false, ◌&&◌, ◌==◌, List, [], ◌∷◌, ap, ◌∙◌, Option}
use Rattle.std.specs.List.{filter}
use Rattle.std.specs.FinMap.{entries}
use Rattle.odb_values.specs.declared.value.Value.{Value}
use Rattle.odb_model.specs.declared.predicate.Predicate.{Predicate}
use Rattle.odb_model.specs.declared.table_key.TableKey.{TableKey}
use Rattle.odb_model.specs.State.{State}
use Rattle.odb_model.specs.Table.{Table}
use Rattle.odb_model.specs.Truth.{matches}
use Rattle.odb_model.specs.Meaning.{values_of, kept_rows}
use Rattle.odb_model.proofs.Parts.{entries-retain_keys, filter-filter}

-- a row is one of the table, and the WHERE has it
abbrev pub is_kept : Table → Option Predicate → TableKey × List Value → Bool
is_kept t filter_of e = (t.number == e.0.table) && matches t.columns filter_of (values_of t e)

pub kept-all : (t : Table) (filter_of : Option Predicate) (s : State) → kept_rows t filter_of s ≡ filter (is_kept t filter_of) (entries s)
kept-all t filter_of s =
    ap (filter (λ e. matches t.columns filter_of (values_of t e))) (entries-retain_keys s (λ at. t.number == at.table))
    ∙ filter-filter (λ e. matches t.columns filter_of (values_of t e)) (λ e. t.number == e.0.table) (entries s)
