-- An UPDATE, row by row.
use Rattle.std.proofs.Common.{◌≡◌, ℕ, false, ◌||◌, List, [], ◌∷◌, ◌++◌, length, refl, sym, ap, subst, ◌∙◌, Option, Some, None, arith}
use Rattle.std.specs.List.{flat_map}
use Rattle.std.specs.Ordering.{eq_by_cmp}
use Rattle.std.proofs.lemmas.List.{length-append}
use Rattle.odb_values.specs.declared.value.Value.{Value}
use Rattle.odb_values.specs.declared.range.Range.{Range}
use Rattle.odb_model.specs.declared.statement.Assignment.{Assignment}
use Rattle.odb_model.specs.declared.write.Write.{Write}
use Rattle.odb_model.specs.declared.reply.Reply.{Reply}
use Rattle.odb_model.specs.declared.table_key.TableKey.{TableKey}
use Rattle.odb_model.specs.State.{State, table_key_cmp, table_key_of}
use Rattle.odb_model.specs.Table.{Table, row_of, in_columns}
use Rattle.odb_model.specs.Binding.{first_refusal}
use Rattle.odb_model.specs.Meaning.{write_at, new_values, new_row_writes, update_refusal, update_writes, updated, refused, refused_or, done, all_some}
use Rattle.odb_eval.specs.declared.filter.Filter.{Filter}
use Rattle.odb_plan.specs.declared.binding.Set.{Set}
use Rattle.odb_exec.specs.declared.columns.NewColumn.{NewColumn}
use Rattle.odb_exec.specs.declared.changes.Changes.{Changes}
use Rattle.odb_exec.specs.Walk.{rows_left}
use Rattle.odb_exec.specs.Written.{IsUnwritten}
use Rattle.odb_exec.specs.Changes.{StandsFor}
use Rattle.odb_exec.specs.Columns.{columns_after, AreColumnsAfter}
use Rattle.odb_rowsource.proofs.Above.{Entry}
use Rattle.odb_exec.proofs.Refusals.{first-passed, first-refused}
use Rattle.odb_exec.proofs.Unwritten.{AreOwn, writes-one, row-unwritten}

module _ (t : Table) (assigned : List Assignment) (format : ℕ) (written : List TableKey) where
  -- none of the rows passed is refused, and the changes are theirs, a write for each
  pub record IsUpdated (changes : Changes) (passed : List Entry) : Type 0 where
    pub agreed : first_refusal (update_refusal format t assigned) passed ≡ None
    pub changed : StandsFor written (flat_map (update_writes t assigned) passed) changes
    pub one_each : length (flat_map (update_writes t assigned) passed) ≡ length passed

  -- the write of a row is to its own key
  own_write : (at : TableKey) (o : Option (List Value)) (w : Write) → new_row_writes t at o ≡ w ∷ [] → table_key_of w ≡ at
  own_write at None w e = cc
  own_write at (Some values) w e = let same : write_at t at (Some (row_of t values)) ≡ w = cc in ap table_key_of (sym same)

  pub write-own : (x : Entry) (w : Write) → update_writes t assigned x ≡ w ∷ [] → table_key_of w ≡ x.0
  write-own x w e = own_write x.0 (new_values t assigned (in_columns t x.0.key x.1)) w e

  pub updated-none : (changes : Changes) → StandsFor written [] changes → IsUpdated changes []
  updated-none changes stands = record { agreed = refl; changed = stands; one_each = refl }

  own-new : (at : TableKey) (k : TableKey) (o : Option (List Value)) → eq_by_cmp table_key_cmp at k ≡ false → IsUnwritten at (new_row_writes t k o)
  own-new at k None e = refl
  own-new at k (Some values) e = ap (λ b. b || false) e

  own-updates : AreOwn (update_writes t assigned)
  own-updates at e other = own-new at e.0 (new_values t assigned (in_columns t e.0.key e.1)) other

  -- the next row isn't refused, and its write is added
  pub updated-one : (range : Range) (f : Option Filter) (s : State) (changes more : Changes) (x : Entry) (later : List Entry) (w : Write)
      → update_refusal format t assigned x ≡ None → update_writes t assigned x ≡ w ∷ [] → table_key_of w ≡ x.0
      → ((writes : List Write) → StandsFor written writes changes → IsUnwritten (table_key_of w) writes → StandsFor written (writes ++ w ∷ []) more)
      → (passed : List Entry) → rows_left range f None s ≡ passed ++ x ∷ later
      → IsUpdated changes passed
      → IsUpdated more (passed ++ x ∷ [])
  updated-one range f s changes more x later w agreed one at add passed all is =
      let writes : List Write = flat_map (update_writes t assigned) passed in
      let together : flat_map (update_writes t assigned) (passed ++ x ∷ []) ≡ writes ++ w ∷ [] = writes-one (update_writes t assigned) passed x ∙ ap (λ l. writes ++ l) one in
      let un : IsUnwritten (table_key_of w) writes =
      subst (λ (k : TableKey). IsUnwritten k writes) (sym at) (row-unwritten (update_writes t assigned) own-updates range f s passed x later all) in
      record {
        agreed = first-passed (update_refusal format t assigned) passed x is.agreed agreed;
        changed = subst (λ (l : List Write). StandsFor written l more) (sym together) (add writes is.changed un);
        one_each = omega (arith, ap length together, length-append writes (w ∷ []), length-append passed (x ∷ []), is.one_each);
      }

  -- the next row is refused: so is the statement
  pub updated-refused : (passed later : List Entry) (x : Entry) (changes : Changes) (reply : Reply) (all : List Entry) → all ≡ passed ++ x ∷ later → IsUpdated changes passed
      → update_refusal format t assigned x ≡ Some reply → updated t assigned all written format ≡ refused reply
  updated-refused passed later x changes reply all e is refuses =
      ap (λ (o : Option Reply). refused_or o (done written (length all) (flat_map (update_writes t assigned) all)))
      (ap (first_refusal (update_refusal format t assigned)) e ∙ first-refused (update_refusal format t assigned) passed later x reply is.agreed refuses)

  -- none is refused
  pub updated-all : (changes : Changes) (all : List Entry) → IsUpdated changes all
      → updated t assigned all written format ≡ done written (length (flat_map (update_writes t assigned) all)) (flat_map (update_writes t assigned) all)
  updated-all changes all is =
      ap (λ (o : Option Reply). refused_or o (done written (length all) (flat_map (update_writes t assigned) all))) is.agreed
      ∙ ap (λ (n : ℕ). done written n (flat_map (update_writes t assigned) all)) (sym is.one_each)

  -- what is made of the values that the columns leave is what the UPDATE makes of the row
  module _ (sets : List Set) (columns : List NewColumn) (are : AreColumnsAfter t assigned sets columns) where
    pub values-are : (key row : List Value) → columns_after sets columns key row ≡ new_values t assigned (in_columns t key row)
    values-are key row = ap all_some (are key row)
