-- What statements that some text spells write is typed: its numbers have 64 bits, its texts are texts.
use Rattle.std.proofs.Common.{◌≡◌, ℕ, zero, suc, ◌≤◌, ◌^◌, ℤ, pos, negsuc, neg_ℤ, Bool, true, false, ◌==◌, not, cond, nat_lt, List, [], ◌∷◌, ◌++◌, map, length, find, refl, sym, subst, Option, Some, None, option_map, arith}
use Rattle.std.specs.Prelude.{FitsSigned, IfSome, int_le}
use Rattle.std.specs.Int.{w64}
use Rattle.std.specs.Option.{option_map_or}
use Rattle.std.specs.List.{All, flat_map, list_any, zip}
use Rattle.std.specs.FinMap.{entries}
use Rattle.std.proofs.lemmas.Bool.{leb-true}
use Rattle.std.proofs.lemmas.List.Elements.{All-nil, All-cons, All-head, All-tail, All-append, All-filter}
use Rattle.odb_values.specs.declared.value.Value.{Value}
use Rattle.odb_values.specs.declared.value.Value.TheVariants.{Null, Int}
use Rattle.odb_values.specs.Value.{is_null}
use Rattle.odb_model.specs.declared.write.Write.{Write}
use Rattle.odb_model.specs.declared.table_key.TableKey.{TableKey}
use Rattle.odb_model.specs.declared.reply.Reply.{Reply}
use Rattle.odb_model.specs.declared.reply.Reply.TheVariants.{TooManyWrites, Done}
use Rattle.odb_model.specs.declared.predicate.Operand.{Operand}
use Rattle.odb_model.specs.declared.predicate.Operand.TheVariants.{Column as ColumnOf, Literal}
use Rattle.odb_model.specs.declared.predicate.Predicate.{Predicate}
use Rattle.odb_model.specs.declared.statement.Expression.{Expression}
use Rattle.odb_model.specs.declared.statement.Assignment.{Assignment}
use Rattle.odb_model.specs.declared.statement.Statement.{Statement}
use Rattle.odb_model.specs.declared.statement.Statement.TheVariants.{Select, Insert, Update, Delete}
use Rattle.odb_model.specs.Lexeme.{Lexeme}
use Rattle.odb_model.specs.Grammar.{IsListed, IsLiteral, IsOperand, IsExpression, IsTuple, IsAssignment, IsStatement, Spells}
use Rattle.odb_model.specs.State.{State, table_key_of, after_writes, rows_of}
use Rattle.odb_model.specs.Table.{Column, Table, is_named, value_at, column_place, place_in, places, places_outside, row_of, stored_value, in_columns}
use Rattle.odb_model.specs.Dictionary.{table_of}
use Rattle.odb_model.specs.Binding.{first_refusal, binding_refusal, is_sum}
use Rattle.odb_model.specs.Truth.{matches, operand_value}
use Rattle.odb_model.specs.Sums.{is_i64, number_value, operand_values, sum_of, value_of}
use Rattle.odb_model.specs.Meaning.{meaning, refused, refused_or, done, different, most_writes, executed, on_table, values_of, kept_rows, write_at, put_of, writes_of, tuples_refusal, all_some, value_or, new_value, new_values, new_row_writes, update_refusal, update_writes, delete_writes}
use Rattle.odb_model.specs.Transaction.{table_keys, meaning_over, alone_writes}
use Rattle.odb_model.specs.Definitions.{IsSpelled}
use Rattle.odb_model.proofs.Covering.{and_true}
use Rattle.odb_model.proofs.Parts.{entries-retain_keys}
use Rattle.odb_codec.specs.Image.{IsTyped, AreTyped}
use Rattle.odb_catalog.proofs.Names.{inside_some}
use Rattle.odb_sound.proofs.Kept.{Holds, OfRows, OfWrite, of_after}

-- the literals of a text

opposite_fits : (n : ℕ) → n ≤ 2 ^ 63 → FitsSigned w64 (neg_ℤ (pos n))
opposite_fits zero most = record { sfits = omega arith }
opposite_fits (suc n) most = record { sfits = omega (arith, most) }

literal_typed : {ls : List Lexeme} {v : Value} → IsLiteral ls v → IsTyped v
literal_typed (IsLiteral.number less) = record { sfits = omega (arith, less) }
literal_typed (IsLiteral.negative {n} most) = opposite_fits n most
literal_typed (IsLiteral.text is) = is
literal_typed IsLiteral.null = tt

values_typed : {ls : List Lexeme} {vs : List Value} → IsListed IsLiteral ls vs → AreTyped vs
values_typed (IsListed.last is) = All-cons IsTyped _ [] (literal_typed is) (All-nil IsTyped)
values_typed (IsListed.more {xs} is rest) = All-cons IsTyped _ xs (literal_typed is) (values_typed rest)

tuple_typed : {ls : List Lexeme} {vs : List Value} → IsTuple ls vs → AreTyped vs
tuple_typed (IsTuple.tuple is) = values_typed is

tuples_typed : {ls : List Lexeme} {tuples : List (List Value)} → IsListed IsTuple ls tuples → All AreTyped tuples
tuples_typed (IsListed.last is) = All-cons AreTyped _ [] (tuple_typed is) (All-nil AreTyped)
tuples_typed (IsListed.more {xs} is rest) = All-cons AreTyped _ xs (tuple_typed is) (tuples_typed rest)

-- the value of an operand, where it is written
abbrev IsTypedOperand : Operand → Type 0
IsTypedOperand (Literal v) = IsTyped v
IsTypedOperand (ColumnOf name) = Unit {0}

-- the first operand of a value that is set; where there are more, the value is a sum
abbrev IsTypedSet : Assignment → Type 0
IsTypedSet a = IsTypedOperand a.value.first

operand_typed : {ls : List Lexeme} {o : Operand} → IsOperand ls o → IsTypedOperand o
operand_typed (IsOperand.column is) = tt
operand_typed (IsOperand.literal is) = literal_typed is

expression_typed : {ls : List Lexeme} {e : Expression} → IsExpression ls e → IsTypedOperand e.first
expression_typed (IsExpression.sum is rest) = operand_typed is

set_typed : {ls : List Lexeme} {a : Assignment} → IsAssignment ls a → IsTypedSet a
set_typed (IsAssignment.set free is) = expression_typed is

sets_typed : {ls : List Lexeme} {sets : List Assignment} → IsListed IsAssignment ls sets → All IsTypedSet sets
sets_typed (IsListed.last is) = All-cons IsTypedSet _ [] (set_typed is) (All-nil IsTypedSet)
sets_typed (IsListed.more {xs} is rest) = All-cons IsTypedSet _ xs (set_typed is) (sets_typed rest)

-- the values that a statement may write are typed where its text has them
abbrev HasTyped : Statement → Type 0
HasTyped (Insert table tuples) = All AreTyped tuples
HasTyped (Update table sets filter_of) = All IsTypedSet sets
HasTyped other = Unit {0}

statement_typed : {ls : List Lexeme} {st : Statement} → IsStatement ls st → HasTyped st
statement_typed (IsStatement.insert free tuples) = tuples_typed tuples
statement_typed (IsStatement.update free sets kept) = sets_typed sets
statement_typed other = tt

spells_typed : {ls : List Lexeme} {st : Statement} → Spells ls st → HasTyped st
spells_typed (Spells.bare is) = statement_typed is
spells_typed (Spells.ended is) = statement_typed is

spelled_typed : (st : Statement) → IsSpelled st → HasTyped st
spelled_typed st spelled = spells_typed spelled.1

-- the values of rows

at_typed : (values : List Value) → AreTyped values → (place : ℕ) → IsTyped (value_at values place)
at_typed [] all place = tt
at_typed (v ∷ values) all zero = All-head IsTyped v values all
at_typed (v ∷ values) all (suc place) = at_typed values (All-tail IsTyped v values all) place

each_typed : (f : ℕ → Value) → ((n : ℕ) → IsTyped (f n)) → (ns : List ℕ) → AreTyped (map f ns)
each_typed f each [] = All-nil IsTyped
each_typed f each (n ∷ ns) = All-cons IsTyped (f n) (map f ns) (each n) (each_typed f each ns)

module _ (t : Table) (key row : List Value) (k : AreTyped key) (r : AreTyped row) where
  stored_typed : (place : ℕ) → IsTyped (stored_value t key row place)
  stored_typed place =
      elim (place_in t.key place) as (λ o. IsTyped (option_map_or (value_at key) o (option_map_or (value_at row) (place_in (places_outside t) place) Null))) [
        | Some i ↦ at_typed key k i
        | None ↦ elim (place_in (places_outside t) place) as (λ o. IsTyped (option_map_or (value_at row) o Null)) [ Some i ↦ at_typed row r i | None ↦ tt ]
      ]

  in_columns_typed : AreTyped (in_columns t key row)
  in_columns_typed = each_typed (stored_value t key row) stored_typed (places t)

-- what an UPDATE leaves of values

i64_fits : (n : ℤ) → is_i64 n ≡ true → FitsSigned w64 n
i64_fits (pos n) e = record { sfits = omega (arith, leb-true n 9223372036854775807 (and_true (int_le (negsuc 9223372036854775807) (pos n)) (int_le (pos n) (pos 9223372036854775807)) e).1) }
i64_fits (negsuc n) e = record { sfits = omega (arith, leb-true n 9223372036854775807 (and_true (int_le (negsuc 9223372036854775807) (negsuc n)) (int_le (negsuc n) (pos 9223372036854775807)) e).0) }

number_typed : (n : ℤ) (w : Value) → number_value n ≡ Some w → IsTyped w
number_typed n w e =
    elim (is_i64 n) as (λ b. is_i64 n ≡ b → cond b (Some (Int n)) None ≡ Some w → IsTyped w) [
      | true ↦ λ is f. subst IsTyped (inside_some (Int n) w f) (i64_fits n is)
      | false ↦ λ is f. cc
    ] refl e

module _ (columns : List Column) (values : List Value) (all : AreTyped values) where
  operand_value_typed : (o : Operand) → IsTypedOperand o → IsTyped (operand_value columns values o)
  operand_value_typed (Literal v) is = is
  operand_value_typed (ColumnOf name) is = elim (column_place columns name) as (λ o. IsTyped (option_map_or (value_at values) o Null)) [
    | Some place ↦ at_typed values all place
    | None ↦ tt
  ]

  value_typed : (e : Expression) (w : Value) → IsTypedOperand e.first → value_of columns values e ≡ Some w → IsTyped w
  value_typed e w is f = by (is_sum e) f
    where
      summed : (b : Bool) → cond b (Some Null) (number_value (sum_of columns values e)) ≡ Some w → IsTyped w
      summed true g = subst IsTyped (inside_some Null w g) tt
      summed false g = number_typed (sum_of columns values e) w g

      by : (b : Bool) → cond (not b) (Some (operand_value columns values e.first)) (cond (list_any is_null (operand_values columns values e)) (Some Null) (number_value (sum_of columns values e))) ≡ Some w → IsTyped w
      by false g = subst IsTyped (inside_some (operand_value columns values e.first) w g) (operand_value_typed e.first is)
      by true g = summed (list_any is_null (operand_values columns values e)) g

  found_typed : (test : Assignment → Bool) (sets : List Assignment) → All IsTypedSet sets → (a : Assignment) → find test sets ≡ Some a → IsTypedSet a
  found_typed test [] typed a e = cc
  found_typed test (x ∷ sets) typed a e =
      elim (test x) as (λ b. cond b (Some x) (find test sets) ≡ Some a → IsTypedSet a) [
        | true ↦ λ f. subst IsTypedSet (inside_some x a f) (All-head IsTypedSet x sets typed)
        | false ↦ λ f. found_typed test sets (All-tail IsTypedSet x sets typed) a f
      ] e

  new_typed : (sets : List Assignment) → All IsTypedSet sets → (c : Column) (v w : Value) → IsTyped v → new_value columns sets values (c, v) ≡ Some w → IsTyped w
  new_typed sets typed c v w is e =
      elim (find (λ a. is_named a.column c.name) sets) as (λ o. find (λ a. is_named a.column c.name) sets ≡ o → value_or columns values v o ≡ Some w → IsTyped w) [
        | None ↦ λ none f. subst IsTyped (inside_some v w f) is
        | Some a ↦ λ found f. value_typed a.value w (found_typed (λ x. is_named x.column c.name) sets typed a found) f
      ] refl e

module _ (g : Column × Value → Option Value) (each : (c : Column) (v w : Value) → IsTyped v → g (c, v) ≡ Some w → IsTyped w) where
  one_more : (w : Value) → IsTyped w → (new : List Value) (o : Option (List Value)) → ((ws : List Value) → o ≡ Some ws → AreTyped ws) → option_map (λ ys. w ∷ ys) o ≡ Some new → AreTyped new
  one_more w is new None rest e = cc
  one_more w is new (Some ws) rest e = subst AreTyped (inside_some (w ∷ ws) new e) (All-cons IsTyped w ws is (rest ws refl))

  all_typed : (columns : List Column) (values : List Value) → AreTyped values → (new : List Value) → all_some (map g (zip columns values)) ≡ Some new → AreTyped new
  all_typed [] values all new e = subst AreTyped (inside_some [] new e) (All-nil IsTyped)
  all_typed (c ∷ columns) [] all new e = subst AreTyped (inside_some [] new e) (All-nil IsTyped)
  all_typed (c ∷ columns) (v ∷ values) all new e =
      elim (g (c, v)) as (λ o. g (c, v) ≡ o → all_some (o ∷ map g (zip columns values)) ≡ Some new → AreTyped new) [
        | None ↦ λ is f. cc
        | Some w ↦ λ is f. one_more w (each c v w (All-head IsTyped v values all) is) new (all_some (map g (zip columns values))) (λ ws same. all_typed columns values (All-tail IsTyped v values all) ws same) f
      ] refl e

-- a key and a row are typed
abbrev pub IsTypedRow : TableKey → List Value → Type 0
IsTypedRow at row = AreTyped at.key × AreTyped row

-- the values of a write are typed
pub record PutsTyped (w : Write) : Type 0 where
  pub key : AreTyped w.key
  pub row : IfSome w.row AreTyped

pub puts_row : (w : Write) → PutsTyped w → OfWrite IsTypedRow w
puts_row w puts row is = (puts.key, by w.row puts.row is)
  where
    by : (o : Option (List Value)) → IfSome o AreTyped → o ≡ Some row → AreTyped row
    by None all e = cc
    by (Some r) all e = subst AreTyped (inside_some r row e) all

module _ (t : Table) where
  nothing : All PutsTyped []
  nothing = All-nil PutsTyped

  done_typed : (written : List TableKey) (count : ℕ) (writes : List Write) → All PutsTyped writes → All PutsTyped (done written count writes).writes
  done_typed written count writes all =
      elim (nat_lt most_writes (different (written ++ map table_key_of writes))) as (λ b. All PutsTyped (cond b (refused TooManyWrites) (record { reply = Done count; writes = writes })).writes) [
        | true ↦ nothing
        | false ↦ all
      ]

  unless_typed : (o : Option Reply) (written : List TableKey) (count : ℕ) (writes : List Write) → All PutsTyped writes → All PutsTyped (refused_or o (done written count writes)).writes
  unless_typed None written count writes all = done_typed written count writes all
  unless_typed (Some reply) written count writes all = nothing

  put_typed : (values : List Value) → AreTyped values → PutsTyped (put_of t values)
  put_typed values all = record { key = each_typed (value_at values) (at_typed values all) t.key; row = each_typed (value_at values) (at_typed values all) (places_outside t) }

  inserted_typed : (tuples : List (List Value)) → All AreTyped tuples → All PutsTyped (flat_map (writes_of t) tuples)
  inserted_typed [] all = nothing
  inserted_typed (values ∷ tuples) all =
      All-cons PutsTyped (put_of t values) (flat_map (writes_of t) tuples) (put_typed values (All-head AreTyped values tuples all)) (inserted_typed tuples (All-tail AreTyped values tuples all))

  updated_typed : (sets : List Assignment) → All IsTypedSet sets → (rows : List (TableKey × List Value)) → All (Holds IsTypedRow) rows → All PutsTyped (flat_map (update_writes t sets) rows)
  updated_typed sets typed [] all = nothing
  updated_typed sets typed (row ∷ rows) all =
      let rest = updated_typed sets typed rows (All-tail (Holds IsTypedRow) row rows all) in
      let old : IsTypedRow row.0 row.1 = All-head (Holds IsTypedRow) row rows all in
      let values : List Value = values_of t row in
      let before : AreTyped values = in_columns_typed t row.0.key row.1 old.0 old.1 in
      elim (new_values t sets (values_of t row)) as (λ o. new_values t sets (values_of t row) ≡ o → All PutsTyped (new_row_writes t row.0 o ++ flat_map (update_writes t sets) rows)) [
        | None ↦ λ is. rest
        | Some new ↦ λ is.
            let after : AreTyped new = all_typed (new_value t.columns sets values) (new_typed t.columns values before sets typed) t.columns values before new is in
            All-cons PutsTyped (write_at t row.0 (Some (row_of t new))) (flat_map (update_writes t sets) rows)
            (record { key = old.0; row = each_typed (value_at new) (at_typed new after) (places_outside t) }) rest
      ] refl

  deleted_typed : (rows : List (TableKey × List Value)) → All (Holds IsTypedRow) rows → All PutsTyped (flat_map (delete_writes t) rows)
  deleted_typed [] all = nothing
  deleted_typed (row ∷ rows) all =
      All-cons PutsTyped (write_at t row.0 None) (flat_map (delete_writes t) rows) (record { key = (All-head (Holds IsTypedRow) row rows all).0; row = tt }) (deleted_typed rows (All-tail (Holds IsTypedRow) row rows all))

  kept_typed : (s : State) → OfRows IsTypedRow s → (filter_of : Option Predicate) → All (Holds IsTypedRow) (kept_rows t filter_of s)
  kept_typed s all filter_of =
      All-filter (λ e. matches t.columns filter_of (values_of t e)) (Holds IsTypedRow) (rows_of t.number s)
      (subst (All (Holds IsTypedRow)) (sym (entries-retain_keys s (λ at. t.number == at.table))) (All-filter (λ e. t.number == e.0.table) (Holds IsTypedRow) (entries s) all))

  executed_typed : (st : Statement) (s : State) (written : List TableKey) (format : ℕ) → HasTyped st → OfRows IsTypedRow s → All PutsTyped (executed t st s written format).writes
  executed_typed (Select what table filter_of) s written format typed all = nothing
  executed_typed (Insert table tuples) s written format typed all =
      unless_typed (tuples_refusal format t s tuples) written (length tuples) (flat_map (writes_of t) tuples) (inserted_typed tuples typed)
  executed_typed (Update table sets filter_of) s written format typed all =
      let rows : List (TableKey × List Value) = kept_rows t filter_of s in
      unless_typed (first_refusal (update_refusal format t sets) rows) written (length rows) (flat_map (update_writes t sets) rows) (updated_typed sets typed rows (kept_typed s all filter_of))
  executed_typed (Delete table filter_of) s written format typed all =
      let rows : List (TableKey × List Value) = kept_rows t filter_of s in
      done_typed written (length rows) (flat_map (delete_writes t) rows) (deleted_typed rows (kept_typed s all filter_of))
  executed_typed other s written format typed all = nothing

  bound_typed : (o : Option Reply) (st : Statement) (s : State) (written : List TableKey) (format : ℕ) → HasTyped st → OfRows IsTypedRow s → All PutsTyped (refused_or o (executed t st s written format)).writes
  bound_typed None st s written format typed all = executed_typed st s written format typed all
  bound_typed (Some reply) st s written format typed all = nothing

module _ (s : State) (all : OfRows IsTypedRow s) (written : List TableKey) (format : ℕ) where
  on_table_typed : (o : Option Table) (st : Statement) → HasTyped st → All PutsTyped (on_table o st s written format).writes
  on_table_typed None st typed = All-nil PutsTyped
  on_table_typed (Some t) st typed = bound_typed t (binding_refusal t st) st s written format typed all

  writes_typed : (st : Statement) → HasTyped st → All PutsTyped (meaning st s written format).writes
  writes_typed (Select what table filter_of) typed = on_table_typed (table_of s table) (Select what table filter_of) typed
  writes_typed (Insert table tuples) typed = on_table_typed (table_of s table) (Insert table tuples) typed
  writes_typed (Update table sets filter_of) typed = on_table_typed (table_of s table) (Update table sets filter_of) typed
  writes_typed (Delete table filter_of) typed = on_table_typed (table_of s table) (Delete table filter_of) typed
  writes_typed other typed = All-nil PutsTyped

-- the rows behind such writes
pub after_typed : (ws : List Write) (s : State) → All PutsTyped ws → OfRows IsTypedRow s → OfRows IsTypedRow (after_writes s ws)
after_typed ws s puts all = of_after IsTypedRow ws s (weaker ws puts) all
  where
    weaker : (ws : List Write) → All PutsTyped ws → All (OfWrite IsTypedRow) ws
    weaker [] puts = All-nil (OfWrite IsTypedRow)
    weaker (w ∷ ws) puts = All-cons (OfWrite IsTypedRow) w ws (puts_row w (All-head PutsTyped w ws puts)) (weaker ws (All-tail PutsTyped w ws puts))

-- what statements that some text spells write one after another
pub alone_typed : (base : State) → OfRows IsTypedRow base → (ws : List Write) (sts : List Statement) (format : ℕ) → All IsSpelled sts → All PutsTyped ws → All PutsTyped (alone_writes base ws sts format)
alone_typed base all ws [] format spelled puts = puts
alone_typed base all ws (st ∷ sts) format spelled puts =
    let more : List Write = (meaning_over st base ws format).writes in
    let new : All PutsTyped more = writes_typed (after_writes base ws) (after_typed ws base puts all) (table_keys ws) format st (spelled_typed st (All-head IsSpelled st sts spelled)) in
    alone_typed base all (ws ++ more) sts format (All-tail IsSpelled st sts spelled) (All-append PutsTyped ws more puts new)
