-- What a bound statement reads and does.
use Rattle.std.proofs.Common.{◌≡◌, ℕ, List, [], ◌∷◌, sym, ap, ◌∙◌, Option, None}
use Rattle.odb_values.specs.declared.range.Range.{Range}
use Rattle.odb_model.specs.declared.predicate.Predicate.{Predicate}
use Rattle.odb_model.specs.declared.reply.Reply.{Reply}
use Rattle.odb_model.specs.declared.statement.What.{What}
use Rattle.odb_model.specs.declared.statement.Assignment.{Assignment}
use Rattle.odb_model.specs.declared.statement.Statement.TheVariants.{Select, Update, Delete}
use Rattle.odb_model.specs.declared.table_key.TableKey.{TableKey}
use Rattle.odb_model.specs.State.{State}
use Rattle.odb_model.specs.Table.{Table, IsTable}
use Rattle.odb_model.specs.Meaning.{kept_rows, refused, executed, updated, deleted}
use Rattle.odb_model.specs.Reads.{table_reads}
use Rattle.odb_plan.specs.declared.binding.BoundStatement.{BoundStatement}
use Rattle.odb_plan.specs.Bound.{IsBound, IsWhere, AreSetsOf}
use Rattle.odb_exec.specs.Walk.{rows_left}
use Rattle.odb_exec.specs.Told.{told_by}
use Rattle.odb_rowsource.proofs.Above.{Entry}
use Rattle.odb_exec.proofs.Keeping.{kept-left}
use Rattle.odb_exec.proofs.Telling.{told-is}

module _ (t : Table) (b : BoundStatement) where
  module _ (what : What) (name : List ℕ) (f : Option Predicate) (bound : IsBound t (Select what name f) b) where
    pub select-reads : table_reads t (Select what name f) ≡ b.range ∷ []
    select-reads = ap (λ (r : Range). r ∷ []) (sym bound.parts.1.range)

  module _ (name : List ℕ) (sets : List Assignment) (f : Option Predicate) (bound : IsBound t (Update name sets f) b) where
    pub update-reads : table_reads t (Update name sets f) ≡ b.range ∷ []
    update-reads = ap (λ (r : Range). r ∷ []) (sym bound.parts.1.range)

    pub update-sets : AreSetsOf t sets b.sets
    update-sets = bound.parts.0

  module _ (name : List ℕ) (f : Option Predicate) (bound : IsBound t (Delete name f) b) where
    pub delete-reads : table_reads t (Delete name f) ≡ b.range ∷ []
    delete-reads = ap (λ (r : Range). r ∷ []) (sym bound.parts.0.range)

  module _ (is : IsTable t) (s : State) where
    -- the rows of a bound WHERE are those that the statement keeps
    kept : (f : Option Predicate) → IsWhere t f b → rows_left b.range b.filter None s ≡ kept_rows t f s
    kept f wh = ap (λ (r : Range). rows_left r b.filter None s) wh.range ∙ kept-left t is f b.filter wh.filter s

    module _ (written : List TableKey) (format : ℕ) where
      pub select-does : (what : What) (name : List ℕ) (f : Option Predicate) → IsBound t (Select what name f) b
          → executed t (Select what name f) s written format ≡ refused (told_by b.what (rows_left b.range b.filter None s))
      select-does what name f bound =
          ap (λ (r : Reply). refused r)
          (sym (told-is t (kept_rows t f s) what b.what bound.parts.0) ∙ ap (told_by b.what) (sym (kept f bound.parts.1)))

      pub update-does : (name : List ℕ) (sets : List Assignment) (f : Option Predicate) → IsBound t (Update name sets f) b
          → executed t (Update name sets f) s written format ≡ updated t sets (rows_left b.range b.filter None s) written format
      update-does name sets f bound = ap (λ (rows : List Entry). updated t sets rows written format) (sym (kept f bound.parts.1))

      pub delete-does : (name : List ℕ) (f : Option Predicate) → IsBound t (Delete name f) b
          → executed t (Delete name f) s written format ≡ deleted t (rows_left b.range b.filter None s) written
      delete-does name f bound = ap (λ (rows : List Entry). deleted t rows written) (sym (kept f bound.parts.0))
