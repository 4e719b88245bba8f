-- The tables of a state's dictionary, in the byte order of their names.
use Rattle.std.specs.Prelude.{ℕ, pos, Bool, ◌&&◌, ◌==◌, not, List, [], ◌∷◌, codes, Option, Some, None, option_map, option_and_then, if◌then◌else◌}
use Rattle.std.specs.List.{filter_map}
use Rattle.std.specs.Ordering.{is_lt, nat_cmp}
use Rattle.std.specs.Cmp.Lexicographic.{slice_cmp}
use Rattle.std.specs.FinMap.{entries}
use Rattle.odb_values.specs.declared.value.Value.{Value}
use Rattle.odb_values.specs.declared.value.Value.TheVariants.{Int, Text}
use Rattle.odb_values.specs.declared.edge.Edge.TheVariants.{Free}
use Rattle.odb_values.specs.declared.range.Range.{Range}
use Rattle.odb_model.specs.declared.table_key.TableKey.{TableKey}
use Rattle.odb_model.specs.State.{State, part_in}
use Rattle.odb_model.specs.Table.{Table, kv, is_named}
use Rattle.odb_model.specs.Databanks.{dictionary_table, table_kind}
use Rattle.odb_model.specs.Dictionary.{has_name_form, table_in_row}

-- a table with its name
pub record Named : Type 0 where
  pub name : List ℕ
  pub table : Table

abbrev pub named : List ℕ → Table → Named
named name table = record { name = name; table = table }

abbrev pub named_kv : Named
named_kv = named (codes "KV") kv

-- the rows of the dictionary that tell of tables
abbrev pub table_rows : Range
table_rows = record {
  table = dictionary_table;
  prefix = Int (pos table_kind) ∷ [];
  low = Free;
  high = Free;
}

-- a name that a row may tell of: in the form of names, and not KV, which is fixed
abbrev pub is_told_name : List ℕ → Bool
is_told_name name = has_name_form name && not (is_named name (codes "KV"))

-- the name in the key of a row that may tell of a table
abbrev pub name_told : List Value → Option (List ℕ)
name_told (Int (pos kind) ∷ Text name ∷ []) =
    if (kind == table_kind) && is_told_name name then Some name else None
name_told key = None

-- the table that a row of the dictionary tells of, with its name
abbrev pub table_told : List Value → List Value → Option Named
table_told key row =
    option_and_then (λ name. option_map (named name) (table_in_row row)) (name_told key)

-- those that these rows tell of, which stand in the byte order of the names
abbrev pub tables_told : List (TableKey × List Value) → List Named
tables_told rows = filter_map (λ e. table_told e.0.key e.1) rows

-- the name comes before KV in the order of bytes
abbrev pub comes_before_kv : List ℕ → Bool
comes_before_kv name = is_lt (slice_cmp nat_cmp name (codes "KV"))

-- the tables with KV at its place among them
abbrev pub with_kv : List Named → List Named
with_kv [] = named_kv ∷ []
with_kv (t ∷ ts) = if comes_before_kv t.name then t ∷ with_kv ts else named_kv ∷ t ∷ ts

-- every table of the dictionary
abbrev pub tables : State → List Named
tables s = with_kv (tables_told (entries (part_in table_rows s)))
