-- The replies that a statement's meaning may have.
use Rattle.std.proofs.Common.{◌≡◌, ℕ, Bool, true, false, ◌&&◌, ◌==◌, cond, List, [], ◌∷◌, ◌++◌, map, length, nat_lt, refl, sym, subst, Option, Some, None, is_some}
use Rattle.std.specs.Option.{option_or}
use Rattle.std.specs.List.{list_any, zip}
use Rattle.odb_values.specs.declared.value.Value.{Value}
use Rattle.odb_values.specs.Key.{width_of_all}
use Rattle.odb_model.specs.declared.write.Write.{Write}
use Rattle.odb_model.specs.declared.reply.Reply.{Reply}
use Rattle.odb_model.specs.declared.reply.Reply.TheVariants.{Okay, Rows, Done, NotYet, NoTable, NoColumn, KindMismatch, KeyColumn, ColumnCount, Duplicate, NullNotAllowed, TooLong, KeyTooWide, RowTooWide, TooManyWrites, Overflow}
use Rattle.odb_model.specs.declared.predicate.Operand.{Operand}
use Rattle.odb_model.specs.declared.predicate.Operand.TheVariants.{Column as ColumnOf, Literal}
use Rattle.odb_model.specs.declared.predicate.Predicate.{Predicate}
use Rattle.odb_model.specs.declared.statement.What.{What}
use Rattle.odb_model.specs.declared.statement.What.TheVariants.{All, Columns, Count, Sum}
use Rattle.odb_model.specs.declared.statement.Assignment.{Assignment}
use Rattle.odb_model.specs.declared.statement.Statement.{Statement}
use Rattle.odb_model.specs.declared.statement.Statement.TheVariants.{Start, Commit, Rollback, Select, Insert, Update, Delete}
use Rattle.odb_model.specs.declared.table_key.TableKey.{TableKey}
use Rattle.odb_model.specs.State.{State, table_key_of}
use Rattle.odb_model.specs.Table.{Column, Table, is_named, column_place, column_value, key_of, row_of}
use Rattle.odb_model.specs.Dictionary.{table_of}
use Rattle.odb_model.specs.Binding.{refuse_if, first_refusal, differ, Kind, is_words, named_kind, operand_kind, column_kind, value_kind, column_refusal, operand_refusal, test_refusal, filter_step, predicate_refusal, filter_refusal, what_refusal, item_refusal, tuple_refusal, operands, is_sum, term_refusal, is_key_column, set_refusal, sets_after, sets_refusal, binding_refusal}
use Rattle.odb_model.specs.Width.{row_fits}
use Rattle.odb_model.specs.Fitting.{lacks_value, has_long_text, widest_key, row_refusal}
use Rattle.odb_model.specs.Sums.{total_of}
use Rattle.odb_model.specs.Meaning.{meaning, refused, refused_or, done, different, most_writes, executed, on_table, values_of, kept_rows, told, single_or_overflow, put_of, with_write, duplicate_refusal, tuples_refusal, new_values, new_row_refusal, update_refusal}
use Rattle.odb_model.proofs.Induct.{fold_test, fold_null, fold_not, fold_and, fold_or, induct_all}

unfoldable pub is_meant : Reply → Bool
is_meant Okay = true
is_meant (Rows rows) = true
is_meant (Done n) = true
is_meant NotYet = true
is_meant NoTable = true
is_meant NoColumn = true
is_meant KindMismatch = true
is_meant KeyColumn = true
is_meant ColumnCount = true
is_meant Duplicate = true
is_meant NullNotAllowed = true
is_meant TooLong = true
is_meant KeyTooWide = true
is_meant RowTooWide = true
is_meant TooManyWrites = true
is_meant Overflow = true
is_meant reply = false

-- a refusal of a statement, where there is one
abbrev IsMeant : Option Reply → Type 0
IsMeant None = Unit {0}
IsMeant (Some reply) = is_meant reply ≡ true

or_meant : (o p : Option Reply) → IsMeant o → IsMeant p → IsMeant (option_or o p)
or_meant None p a b = b
or_meant (Some r) p a b = a

first_meant : {A : Type 0} (refusal : A → Option Reply) → ((x : A) → IsMeant (refusal x)) → (xs : List A) → IsMeant (first_refusal refusal xs)
first_meant refusal meant [] = tt
first_meant refusal meant (x ∷ xs) = or_meant (refusal x) (first_refusal refusal xs) (meant x) (first_meant refusal meant xs)

if_meant : (b : Bool) (reply : Reply) → is_meant reply ≡ true → IsMeant (refuse_if b reply)
if_meant true reply e = e
if_meant false reply e = tt

-- refused where a test fails, else by the rest
else_meant : (b : Bool) (reply : Reply) (o : Option Reply) → is_meant reply ≡ true → IsMeant o → IsMeant (cond b (Some reply) o)
else_meant true reply o e rest = e
else_meant false reply o e rest = rest

unless_meant : (b : Bool) (reply : Reply) (o : Option Reply) → is_meant reply ≡ true → IsMeant o → IsMeant (cond b o (Some reply))
unless_meant true reply o e rest = rest
unless_meant false reply o e rest = e

column_meant : (columns : List Column) (name : List ℕ) → IsMeant (column_refusal columns name)
unfolding is_meant
column_meant columns name = unless_meant (is_some (column_place columns name)) NoColumn None refl tt

operand_meant : (columns : List Column) (operand : Operand) → IsMeant (operand_refusal columns operand)
operand_meant columns (ColumnOf name) = column_meant columns name
operand_meant columns (Literal v) = tt

kinds_meant : (b : Bool) → IsMeant (refuse_if b KindMismatch)
unfolding is_meant
kinds_meant b = if_meant b KindMismatch refl

test_meant : (columns : List Column) (left right : Operand) → IsMeant (test_refusal columns left right)
test_meant columns left right =
    or_meant (operand_refusal columns left) _ (operand_meant columns left) (or_meant (operand_refusal columns right) _ (operand_meant columns right) (kinds_meant (differ (operand_kind columns left) (operand_kind columns right))))

predicate_meant : (columns : List Column) (f : Predicate) → IsMeant (predicate_refusal columns f)
predicate_meant columns =
    induct_all (λ f. IsMeant (predicate_refusal columns f))
    (λ op left right. subst IsMeant (sym (fold_test (Option Reply) (filter_step columns) op left right)) (test_meant columns left right))
    (λ name negated. subst IsMeant (sym (fold_null (Option Reply) (filter_step columns) name negated)) (column_meant columns name))
    (λ a p. subst IsMeant (sym (fold_not (Option Reply) (filter_step columns) a)) p)
    (λ a b p q. subst IsMeant (sym (fold_and (Option Reply) (filter_step columns) a b)) (or_meant (predicate_refusal columns a) (predicate_refusal columns b) p q))
    (λ a b p q. subst IsMeant (sym (fold_or (Option Reply) (filter_step columns) a b)) (or_meant (predicate_refusal columns a) (predicate_refusal columns b) p q))

filter_meant : (columns : List Column) (f : Option Predicate) → IsMeant (filter_refusal columns f)
filter_meant columns None = tt
filter_meant columns (Some f) = predicate_meant columns f

what_meant : (columns : List Column) (what : What) → IsMeant (what_refusal columns what)
what_meant columns All = tt
what_meant columns (Columns names) = first_meant (column_refusal columns) (column_meant columns) names
what_meant columns Count = tt
what_meant columns (Sum name) = or_meant (column_refusal columns name) _ (column_meant columns name) (kinds_meant (is_words (named_kind columns name)))

item_meant : (item : Column × Value) → IsMeant (item_refusal item)
item_meant item = kinds_meant (differ (Some (column_kind item.0)) (value_kind item.1))

tuple_meant : (columns : List Column) (values : List Value) → IsMeant (tuple_refusal columns values)
unfolding is_meant
tuple_meant columns values = unless_meant (length values == length columns) ColumnCount _ refl (first_meant item_refusal item_meant (zip columns values))

term_meant : (columns : List Column) (b : Bool) (kind : Option Kind) (operand : Operand) → IsMeant (term_refusal columns b kind operand)
term_meant columns b kind operand =
    or_meant (operand_refusal columns operand) _ (operand_meant columns operand)
    (or_meant (refuse_if (b && is_words (operand_kind columns operand)) KindMismatch) _ (kinds_meant (b && is_words (operand_kind columns operand))) (kinds_meant (differ kind (operand_kind columns operand))))

set_meant : (t : Table) (earlier : List (List ℕ)) (a : Assignment) → IsMeant (set_refusal t earlier a)
unfolding is_meant
set_meant t earlier a =
    or_meant (column_refusal t.columns a.column) _ (column_meant t.columns a.column)
    (or_meant (refuse_if (is_key_column t a.column) KeyColumn) _ (if_meant (is_key_column t a.column) KeyColumn refl)
    (or_meant (refuse_if (list_any (is_named a.column) earlier) ColumnCount) _ (if_meant (list_any (is_named a.column) earlier) ColumnCount refl)
    (first_meant (term_refusal t.columns (is_sum a.value) (named_kind t.columns a.column)) (term_meant t.columns (is_sum a.value) (named_kind t.columns a.column)) (operands a.value))))

sets_meant : (t : Table) (earlier : List (List ℕ)) (sets : List Assignment) → IsMeant (sets_after t earlier sets)
sets_meant t earlier [] = tt
sets_meant t earlier (a ∷ sets) = or_meant (set_refusal t earlier a) (sets_after t (a.column ∷ earlier) sets) (set_meant t earlier a) (sets_meant t (a.column ∷ earlier) sets)

binding_meant : (t : Table) (st : Statement) → IsMeant (binding_refusal t st)
binding_meant t (Select what table f) = or_meant (what_refusal t.columns what) (filter_refusal t.columns f) (what_meant t.columns what) (filter_meant t.columns f)
binding_meant t (Insert table tuples) = first_meant (tuple_refusal t.columns) (tuple_meant t.columns) tuples
binding_meant t (Update table sets f) = or_meant (sets_refusal t sets) (filter_refusal t.columns f) (sets_meant t [] sets) (filter_meant t.columns f)
binding_meant t (Delete table f) = filter_meant t.columns f
binding_meant t other = tt

row_meant : (format : ℕ) (t : Table) (key values : List Value) → IsMeant (row_refusal format t key values)
unfolding is_meant
row_meant format t key values =
    else_meant (lacks_value t key values) NullNotAllowed _ refl
    (else_meant (has_long_text t values) TooLong _ refl
    (else_meant (nat_lt widest_key (width_of_all key)) KeyTooWide _ refl
    (unless_meant (row_fits format key (row_of t values)) RowTooWide None refl tt)))

tuples_meant : (format : ℕ) (t : Table) (tuples : List (List Value)) (s : State) → IsMeant (tuples_refusal format t s tuples)
unfolding is_meant
tuples_meant format t [] s = tt
tuples_meant format t (values ∷ tuples) s =
    or_meant (row_refusal format t (key_of t values) values) _ (row_meant format t (key_of t values) values)
    (or_meant (duplicate_refusal s (put_of t values)) _ (if_meant _ Duplicate refl) (tuples_meant format t tuples (with_write s (put_of t values))))

new_row_meant : (format : ℕ) (t : Table) (at : TableKey) (o : Option (List Value)) → IsMeant (new_row_refusal format t at o)
unfolding is_meant
new_row_meant format t at None = refl
new_row_meant format t at (Some values) = row_meant format t at.key values

update_meant : (format : ℕ) (t : Table) (sets : List Assignment) (e : TableKey × List Value) → IsMeant (update_refusal format t sets e)
update_meant format t sets e = new_row_meant format t e.0 (new_values t sets (values_of t e))

overflow_meant : (o : Option Value) → is_meant (single_or_overflow o) ≡ true
unfolding is_meant
overflow_meant None = refl
overflow_meant (Some v) = refl

told_meant : (columns : List Column) (what : What) (rows : List (List Value)) → is_meant (told columns what rows) ≡ true
unfolding is_meant
told_meant columns All rows = refl
told_meant columns (Columns names) rows = refl
told_meant columns Count rows = refl
told_meant columns (Sum name) rows = overflow_meant (total_of (map (λ values. column_value columns values name) rows))

done_meant : (written : List TableKey) (n : ℕ) (ws : List Write) → is_meant (done written n ws).reply ≡ true
unfolding is_meant
done_meant written n ws =
    elim (nat_lt most_writes (different (written ++ map table_key_of ws))) as (λ b. is_meant (cond b (refused TooManyWrites) (record { reply = Done n; writes = ws })).reply ≡ true) [ true ↦ refl | false ↦ refl ]

unless_done : (o : Option Reply) (written : List TableKey) (n : ℕ) (ws : List Write) → IsMeant o → is_meant (refused_or o (done written n ws)).reply ≡ true
unless_done None written n ws p = done_meant written n ws
unless_done (Some r) written n ws p = p

executed_meant : (t : Table) (st : Statement) (s : State) (written : List TableKey) (format : ℕ) → is_meant (executed t st s written format).reply ≡ true
unfolding is_meant
executed_meant t (Select what table f) s written format = told_meant t.columns what (map (values_of t) (kept_rows t f s))
executed_meant t (Insert table tuples) s written format = unless_done (tuples_refusal format t s tuples) written _ _ (tuples_meant format t tuples s)
executed_meant t (Update table sets f) s written format = unless_done (first_refusal (update_refusal format t sets) (kept_rows t f s)) written _ _ (first_meant (update_refusal format t sets) (update_meant format t sets) (kept_rows t f s))
executed_meant t (Delete table f) s written format = done_meant written _ _
executed_meant t other s written format = refl

bound_meant : (o : Option Reply) (t : Table) (st : Statement) (s : State) (written : List TableKey) (format : ℕ) → IsMeant o → is_meant (refused_or o (executed t st s written format)).reply ≡ true
bound_meant None t st s written format p = executed_meant t st s written format
bound_meant (Some r) t st s written format p = p

on_table_meant : (o : Option Table) (st : Statement) (s : State) (written : List TableKey) (format : ℕ) → is_meant (on_table o st s written format).reply ≡ true
unfolding is_meant
on_table_meant None st s written format = refl
on_table_meant (Some t) st s written format = bound_meant (binding_refusal t st) t st s written format (binding_meant t st)

pub are_meant : (st : Statement) (s : State) (written : List TableKey) (format : ℕ) → is_meant (meaning st s written format).reply ≡ true
unfolding is_meant
are_meant (Select what table f) s written format = on_table_meant (table_of s table) (Select what table f) s written format
are_meant (Insert table tuples) s written format = on_table_meant (table_of s table) (Insert table tuples) s written format
are_meant (Update table sets f) s written format = on_table_meant (table_of s table) (Update table sets f) s written format
are_meant (Delete table f) s written format = on_table_meant (table_of s table) (Delete table f) s written format
are_meant Start s written format = refl
are_meant Commit s written format = refl
are_meant Rollback s written format = refl
are_meant other s written format = refl
