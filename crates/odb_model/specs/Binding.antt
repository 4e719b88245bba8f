-- What a statement on rows is refused for by its text and the dictionary alone: columns that aren't
-- there, and values of another kind than their column. The text is gone through from left to right,
-- and the first refusal comes. The order is this project's own.
use Rattle.std.specs.Prelude.{ℕ, Bool, true, false, ◌==◌, ◌&&◌, List, [], ◌∷◌, length, map, Option, Some, None, is_some, option_map, option_and_then, slice_get, if◌then◌else◌}
use Rattle.std.specs.Option.{option_or}
use Rattle.std.specs.List.{list_any, zip}
use Rattle.odb_values.specs.declared.value.Value.{Value}
use Rattle.odb_values.specs.declared.value.Value.TheVariants.{Null, Int, Text}
use Rattle.odb_model.specs.declared.predicate.Operand.{Operand}
use Rattle.odb_model.specs.declared.predicate.Operand.TheVariants.{Column as ColumnOf, Literal}
use Rattle.odb_model.specs.declared.predicate.Predicate.{Predicate, fold-Predicate}
use Rattle.odb_model.specs.declared.predicate.Predicate.TheOpen.{Predicate-F}
use Rattle.odb_model.specs.declared.reply.Reply.{Reply}
use Rattle.odb_model.specs.declared.reply.Reply.TheVariants.{NoColumn, KeyColumn, ColumnCount, KindMismatch}
use Rattle.odb_model.specs.declared.statement.What.{What}
use Rattle.odb_model.specs.declared.statement.What.TheVariants.{All, Columns, Count, Sum}
use Rattle.odb_model.specs.declared.statement.Expression.{Expression}
use Rattle.odb_model.specs.declared.statement.Assignment.{Assignment}
use Rattle.odb_model.specs.declared.statement.Statement.{Statement}
use Rattle.odb_model.specs.declared.statement.Statement.TheVariants.{Select, Insert, Update, Delete}
use Rattle.odb_model.specs.Table.{Column, Table, is_named, column_place, place_in}

-- a refusal where this is so
abbrev pub refuse_if : Bool → Reply → Option Reply
refuse_if true reply = Some reply
refuse_if false reply = None

-- the first refusal that comes at these items, from the first on
abbrev pub first_refusal : {A : Type 0} → (A → Option Reply) → List A → Option Reply
first_refusal refusal [] = None
first_refusal refusal (x ∷ xs) = option_or (refusal x) (first_refusal refusal xs)

-- the kinds of values
pub data Kind : Type 0 where
  Number : Kind
  Words : Kind

-- the kind of a value; Null is of any
abbrev pub value_kind : Value → Option Kind
value_kind Null = None
value_kind (Int n) = Some Number
value_kind (Text t) = Some Words

-- INTEGER or VARCHAR
abbrev pub column_kind : Column → Kind
column_kind c = if c.kind == 0 then Number else Words

abbrev pub is_words : Option Kind → Bool
is_words (Some Words) = true
is_words other = false

-- both kinds are known, and they are two
abbrev pub differ : Option Kind → Option Kind → Bool
differ (Some Number) (Some Words) = true
differ (Some Words) (Some Number) = true
differ a b = false

-- the kind of the column of this name
abbrev pub named_kind : List Column → List ℕ → Option Kind
named_kind columns name =
    option_map column_kind (option_and_then (slice_get columns) (column_place columns name))

abbrev pub operand_kind : List Column → Operand → Option Kind
operand_kind columns (ColumnOf name) = named_kind columns name
operand_kind columns (Literal v) = value_kind v

-- there has to be a column of this name
abbrev pub column_refusal : List Column → List ℕ → Option Reply
column_refusal columns name = if is_some (column_place columns name) then None else Some NoColumn

abbrev pub operand_refusal : List Column → Operand → Option Reply
operand_refusal columns (ColumnOf name) = column_refusal columns name
operand_refusal columns (Literal v) = None

-- a comparison is judged after both its sides
abbrev pub test_refusal : List Column → Operand → Operand → Option Reply
test_refusal columns left right =
    option_or (operand_refusal columns left)
    (option_or (operand_refusal columns right)
    (refuse_if (differ (operand_kind columns left) (operand_kind columns right)) KindMismatch))

abbrev pub filter_step : List Column → Predicate-F (Option Reply) → Option Reply
filter_step columns (Predicate-F.Test op left right) = test_refusal columns left right
filter_step columns (Predicate-F.Null name negated) = column_refusal columns name
filter_step columns (Predicate-F.Not a) = a
filter_step columns (Predicate-F.And a b) = option_or a b
filter_step columns (Predicate-F.Or a b) = option_or a b

abbrev pub predicate_refusal : List Column → Predicate → Option Reply
predicate_refusal columns p = fold-Predicate (Option Reply) (filter_step columns) p

abbrev pub filter_refusal : List Column → Option Predicate → Option Reply
filter_refusal columns None = None
filter_refusal columns (Some p) = predicate_refusal columns p

-- a sum is of numbers
abbrev pub what_refusal : List Column → What → Option Reply
what_refusal columns All = None
what_refusal columns (Columns names) = first_refusal (column_refusal columns) names
what_refusal columns Count = None
what_refusal columns (Sum name) =
    option_or (column_refusal columns name)
    (refuse_if (is_words (named_kind columns name)) KindMismatch)

-- a tuple's value at a column
abbrev pub item_refusal : Column × Value → Option Reply
item_refusal item =
    refuse_if (differ (Some (column_kind item.0)) (value_kind item.1)) KindMismatch

-- a tuple has a value for each column; its opening parenthesis stands before its values
abbrev pub tuple_refusal : List Column → List Value → Option Reply
tuple_refusal columns values =
    if length values == length columns then first_refusal item_refusal (zip columns values)
    else Some ColumnCount

-- the operands of an expression, from left to right
abbrev pub operands : Expression → List Operand
operands e = e.first ∷ map (λ term. term.operand) e.rest

abbrev pub is_sum : Expression → Bool
is_sum e = is_some (slice_get e.rest 0)

-- an operand of a value that is set: its column has to be there, in a sum of several operands it is
-- no text, and it is of the kind of the column that is set
abbrev pub term_refusal : List Column → Bool → Option Kind → Operand → Option Reply
term_refusal columns among_several kind operand =
    option_or (operand_refusal columns operand)
    (option_or (refuse_if (among_several && is_words (operand_kind columns operand)) KindMismatch)
    (refuse_if (differ kind (operand_kind columns operand)) KindMismatch))

abbrev pub is_key_column : Table → List ℕ → Bool
is_key_column t name = is_some (option_and_then (place_in t.key) (column_place t.columns name))

-- the column that is set, which isn't in the primary key and wasn't set before, and then the value
abbrev pub set_refusal : Table → List (List ℕ) → Assignment → Option Reply
set_refusal t earlier a =
    option_or (column_refusal t.columns a.column)
    (option_or (refuse_if (is_key_column t a.column) KeyColumn)
    (option_or (refuse_if (list_any (is_named a.column) earlier) ColumnCount)
    (first_refusal (term_refusal t.columns (is_sum a.value) (named_kind t.columns a.column))
    (operands a.value))))

abbrev pub sets_after : Table → List (List ℕ) → List Assignment → Option Reply
sets_after t earlier [] = None
sets_after t earlier (a ∷ sets) =
    option_or (set_refusal t earlier a) (sets_after t (a.column ∷ earlier) sets)

abbrev pub sets_refusal : Table → List Assignment → Option Reply
sets_refusal t sets = sets_after t [] sets

-- the first refusal of a statement on rows of this table
abbrev pub binding_refusal : Table → Statement → Option Reply
binding_refusal t (Select what table filter_of) =
    option_or (what_refusal t.columns what) (filter_refusal t.columns filter_of)
binding_refusal t (Insert table tuples) = first_refusal (tuple_refusal t.columns) tuples
binding_refusal t (Update table sets filter_of) =
    option_or (sets_refusal t sets) (filter_refusal t.columns filter_of)
binding_refusal t (Delete table filter_of) = filter_refusal t.columns filter_of
binding_refusal t other = None
