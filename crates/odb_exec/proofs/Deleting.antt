-- A DELETE, row by row.
use Rattle.std.proofs.Common.{◌≡◌, Option, false, ◌||◌, List, [], ◌∷◌, ◌++◌, length, refl, sym, ap, subst, ◌∙◌, None}
use Rattle.std.specs.List.{flat_map}
use Rattle.odb_values.specs.declared.range.Range.{Range}
use Rattle.odb_model.specs.declared.write.Write.{Write}
use Rattle.odb_model.specs.declared.table_key.TableKey.{TableKey}
use Rattle.odb_model.specs.State.{State, table_key_of}
use Rattle.odb_model.specs.Table.{Table}
use Rattle.odb_model.specs.Meaning.{delete_writes, deleted, done}
use Rattle.odb_eval.specs.declared.filter.Filter.{Filter}
use Rattle.odb_exec.specs.declared.changes.Changes.{Changes}
use Rattle.odb_exec.specs.Walk.{rows_left}
use Rattle.odb_exec.specs.Written.{IsUnwritten}
use Rattle.odb_exec.specs.Changes.{StandsFor}
use Rattle.odb_rowsource.proofs.Above.{Entry}
use Rattle.odb_exec.proofs.Unwritten.{AreOwn, writes-one, row-unwritten, one-each}

module _ (t : Table) (written : List TableKey) where
  own-deletes : AreOwn (delete_writes t)
  own-deletes at e other = ap (λ b. b || false) other

  -- the write of the next row is added
  pub deleted-one : (range : Range) (f : Option Filter) (s : State) (changes more : Changes) (x : Entry) (later : List Entry) (w : Write) → delete_writes t x ≡ w ∷ [] → table_key_of w ≡ x.0
      → ((writes : List Write) → StandsFor written writes changes → IsUnwritten (table_key_of w) writes → StandsFor written (writes ++ w ∷ []) more)
      → (passed : List Entry) → rows_left range f None s ≡ passed ++ x ∷ later
      → StandsFor written (flat_map (delete_writes t) passed) changes
      → StandsFor written (flat_map (delete_writes t) (passed ++ x ∷ [])) more
  deleted-one range f s changes more x later w one at add passed all stands =
      let writes : List Write = flat_map (delete_writes t) passed in
      let together : flat_map (delete_writes t) (passed ++ x ∷ []) ≡ writes ++ w ∷ [] = writes-one (delete_writes t) passed x ∙ ap (λ l. writes ++ l) one in
      let un : IsUnwritten (table_key_of w) writes =
      subst (λ (k : TableKey). IsUnwritten k writes) (sym at) (row-unwritten (delete_writes t) own-deletes range f s passed x later all) in
      subst (λ (l : List Write). StandsFor written l more) (sym together) (add writes stands un)

  -- all are deleted
  pub deleted-all : (all : List Entry) → deleted t all written ≡ done written (length (flat_map (delete_writes t) all)) (flat_map (delete_writes t) all)
  deleted-all all = ap (λ n. done written n (flat_map (delete_writes t) all)) (sym (one-each (delete_writes t) all (λ e. refl)))
