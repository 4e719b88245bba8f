-- When a bound statement stands for a statement on rows of a table.
use Rattle.std.specs.Prelude.{◌≡◌, List, [], map, Option, Some, None, IsSome}
use Rattle.std.specs.List.{All, AllZip}
use Rattle.odb_values.specs.declared.value.Value.{Value}
use Rattle.odb_model.specs.declared.predicate.Predicate.{Predicate}
use Rattle.odb_model.specs.declared.statement.What.{What}
use Rattle.odb_model.specs.declared.statement.What.TheVariants as what
use Rattle.odb_model.specs.declared.statement.Assignment.{Assignment}
use Rattle.odb_model.specs.declared.statement.Statement.{Statement}
use Rattle.odb_model.specs.declared.statement.Statement.TheVariants.{Select, Update, Delete}
use Rattle.odb_model.specs.declared.reply.Reply.{Reply}
use Rattle.odb_model.specs.declared.reply.Reply.TheVariants as reply
use Rattle.odb_model.specs.Table.{Table, places, column_place, column_value, in_columns}
use Rattle.odb_model.specs.Binding.{binding_refusal}
use Rattle.odb_model.specs.Where.{range_of}
use Rattle.odb_eval.specs.declared.source.Source.{Source}
use Rattle.odb_eval.specs.Bound.{source_value, place_source, column_source, IsColumnOf, IsExpressionOf, IsWhereOf}
use Rattle.odb_plan.specs.declared.what.BoundWhat.{BoundWhat}
use Rattle.odb_plan.specs.declared.what.BoundWhat.TheVariants as bound
use Rattle.odb_plan.specs.declared.binding.Set.{Set}
use Rattle.odb_plan.specs.declared.binding.BoundStatement.{BoundStatement}
use Rattle.odb_plan.specs.declared.error.PlanError.{PlanError}
use Rattle.odb_plan.specs.declared.error.PlanError.TheVariants.{NoColumn, KindMismatch, KeyColumn, ColumnCount, NoMemory}

-- the values from these places, of a key and a row
abbrev pub source_values : List Value → List Value → List Source → List Value
source_values key row sources = map (source_value key row) sources

-- What is given of each row is what the SELECT gives of it: all columns in their order, or those that
-- it names; or the number of rows; or the sum of the column that it names
abbrev pub IsWhatOf : Table → What → BoundWhat → Type 0
IsWhatOf t what.All (bound.Columns sources) =
    (key row : List Value) → source_values key row sources ≡ in_columns t key row
IsWhatOf t (what.Columns names) (bound.Columns sources) = (key row : List Value)
    → source_values key row sources ≡ map (column_value t.columns (in_columns t key row)) names
IsWhatOf t what.Count bound.Count = Unit {0}
IsWhatOf t (what.Sum name) (bound.Sum source) = IsColumnOf t name source
IsWhatOf t what bound = ⊥

-- what is given of each row, with its names bound to places
abbrev pub what_bound : Table → What → BoundWhat
what_bound t what.All = bound.Columns (map (place_source t) (places t))
what_bound t (what.Columns names) = bound.Columns (map (column_source t) names)
what_bound t what.Count = bound.Count
what_bound t (what.Sum name) = bound.Sum (column_source t name)

-- a set has the place of its column, and its expression
pub record IsSetOf (t : Table) (a : Assignment) (set : Set) : Type 0 where
  pub place : column_place t.columns a.column ≡ Some set.place
  pub value : IsExpressionOf t a.value set.value

abbrev pub AreSetsOf : Table → List Assignment → List Set → Type 0
AreSetsOf t sets bound = AllZip (IsSetOf t) sets bound

-- it keeps the rows that the WHERE keeps, and its range is that of the WHERE
pub record IsWhere (t : Table) (where_of : Option Predicate) (b : BoundStatement) : Type 0 where
  pub filter : IsWhereOf t where_of b.filter
  pub range : b.range ≡ range_of t where_of

-- each part of it stands for the statement's; where the statement has no such part, the number of
-- rows is given, nothing is set, and each row is kept
abbrev pub HasParts : Table → Statement → BoundStatement → Type 0
HasParts t (Select what table filter) b =
    IsWhatOf t what b.what × IsWhere t filter b × (b.sets ≡ [])
HasParts t (Update table sets filter) b =
    AreSetsOf t sets b.sets × IsWhere t filter b × (b.what ≡ bound.Count)
HasParts t (Delete table filter) b =
    IsWhere t filter b × (b.sets ≡ []) × (b.what ≡ bound.Count)
HasParts t other b = IsWhere t None b × (b.sets ≡ []) × (b.what ≡ bound.Count)

-- the statement isn't refused, and each part stands for its own
pub record IsBound (t : Table) (st : Statement) (b : BoundStatement) : Type 0 where
  pub agreed : binding_refusal t st ≡ None
  pub parts : HasParts t st b

-- the reply to a statement that is refused so
abbrev pub IsErrorOf : Reply → PlanError → Type 0
IsErrorOf r NoColumn = r ≡ reply.NoColumn
IsErrorOf r KindMismatch = r ≡ reply.KindMismatch
IsErrorOf r KeyColumn = r ≡ reply.KeyColumn
IsErrorOf r ColumnCount = r ≡ reply.ColumnCount
IsErrorOf r NoMemory = ⊥

-- the statement is refused so; memory may run out at any statement
abbrev pub IsRefused : Table → Statement → PlanError → Type 0
IsRefused t st NoColumn = binding_refusal t st ≡ Some reply.NoColumn
IsRefused t st KindMismatch = binding_refusal t st ≡ Some reply.KindMismatch
IsRefused t st KeyColumn = binding_refusal t st ≡ Some reply.KeyColumn
IsRefused t st ColumnCount = binding_refusal t st ≡ Some reply.ColumnCount
IsRefused t st NoMemory = Unit {0}

-- the replies by which a statement is refused by its text and the dictionary alone
abbrev pub IsBindingReply : Reply → Type 0
IsBindingReply reply.NoColumn = Unit {0}
IsBindingReply reply.KindMismatch = Unit {0}
IsBindingReply reply.KeyColumn = Unit {0}
IsBindingReply reply.ColumnCount = Unit {0}
IsBindingReply other = ⊥

-- the column that is set is there, at each of these
abbrev pub HasColumns : Table → List Assignment → Type 0
HasColumns t sets = All (λ a. IsSome (column_place t.columns a.column)) sets
