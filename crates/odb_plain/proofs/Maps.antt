-- A map whose keys are places, as a finite map.
use Rattle.std.proofs.Common.{◌≡◌, Bool, true, false, ◌&&◌, List, [], ◌∷◌, map, cond, refl, ap, sym, subst, ◌∙◌, T, Option, Some, None}
use Rattle.std.specs.declared.cmp.Ordering.TheVariants.{Less}
use Rattle.std.specs.FinMap.{get, insert, remove, find, entries, entries_sorted, from_entries, same_map, get-insert, get-remove, get-entries, get-from_entries}
use Rattle.std.specs.FinMap.Entries.{is_sorted, below_all, same_entries}
use Rattle.std.specs.Cmp.{eq_by_cmp_equiv}
use Rattle.std.specs.Map.{lookup}
use Rattle.std.specs.List.{AllByRecursion}
use Rattle.std.specs.List.Sorted.{IsStrictlySortedBy}
use Rattle.std.specs.Ordering.{eq_by_cmp, is_lt}
use Rattle.odb_model.specs.declared.table_key.TableKey.{TableKey}
use Rattle.odb_model.specs.State.{table_key_cmp}
use Rattle.odb_model.proofs.Replay.{table_key_cmp_total, table_key_cmp_exact}

both : (a b : Bool) → a ≡ true → b ≡ true → (a && b) ≡ true
both true b p q = q
both false b p q = cc

module _ {X : Type 0} where
  -- what a list of entries has first at a place
  abbrev pub at_key : List (TableKey × X) → TableKey → Option X
  at_key es q = lookup (eq_by_cmp table_key_cmp q) es

  find-at_key : (es : List (TableKey × X)) (q : TableKey) → find table_key_cmp q es ≡ at_key es q
  find-at_key [] q = refl
  find-at_key (e ∷ es) q = ap (cond (eq_by_cmp table_key_cmp q e.0) (Some e.1)) (find-at_key es q)

  pub get-at_key : (es : List (TableKey × X)) (q : TableKey) → get (from_entries {R = table_key_cmp} es) q ≡ at_key es q
  get-at_key es q = get-from_entries table_key_cmp_total es q ∙ find-at_key es q

  turned : (k q : TableKey) (o other : Option X) → cond (eq_by_cmp table_key_cmp k q) o other ≡ cond (eq_by_cmp table_key_cmp q k) o other
  turned k q o other = ap (λ b. cond b o other) ((eq_by_cmp_equiv table_key_cmp_total).symm k q)

  -- entries that changed at one place by an insertion
  pub one_inserted : (es fs : List (TableKey × X)) (k : TableKey) (x : X)
      → ((q : TableKey) → at_key fs q ≡ cond (eq_by_cmp table_key_cmp k q) (Some x) (at_key es q)) → from_entries {R = table_key_cmp} fs ≡ insert (from_entries es) k x
  one_inserted es fs k x h = same_map table_key_cmp_total table_key_cmp_exact _ _ (λ q.
      get-at_key fs q ∙ h q ∙ turned k q (Some x) (at_key es q)
      ∙ sym (get-insert table_key_cmp_total (from_entries es) k x q ∙ ap (cond (eq_by_cmp table_key_cmp q k) (Some x)) (get-at_key es q)))

  -- entries that changed at one place by a removal
  pub one_removed : (es fs : List (TableKey × X)) (k : TableKey)
      → ((q : TableKey) → at_key fs q ≡ cond (eq_by_cmp table_key_cmp k q) None (at_key es q)) → from_entries {R = table_key_cmp} fs ≡ remove (from_entries es) k
  one_removed es fs k h = same_map table_key_cmp_total table_key_cmp_exact _ _ (λ q.
      get-at_key fs q ∙ h q ∙ turned k q None (at_key es q)
      ∙ sym (get-remove table_key_cmp_total (from_entries es) k q ∙ ap (cond (eq_by_cmp table_key_cmp q k) None) (get-at_key es q)))

  below : (k : TableKey) (es : List (TableKey × X)) → AllByRecursion (λ q. table_key_cmp k q ≡ Less) (map (λ e. e.0) es) → below_all table_key_cmp k es ≡ true
  below k [] h = refl
  below k (e ∷ es) h = both (is_lt (table_key_cmp k e.0)) (below_all table_key_cmp k es) (ap is_lt h.0) (below k es h.1)

  sorted : (es : List (TableKey × X)) → IsStrictlySortedBy table_key_cmp (map (λ e. e.0) es) → is_sorted table_key_cmp es ≡ true
  unfolding IsStrictlySortedBy
  sorted [] h = refl
  sorted (e ∷ es) h = both (below_all table_key_cmp e.0 es) (is_sorted table_key_cmp es) (below e.0 es h.0) (sorted es h.1)

  -- a list in strict order is that of the entries of its map
  pub entries-from_ordered : (es : List (TableKey × X)) → IsStrictlySortedBy table_key_cmp (map (λ e. e.0) es) → entries (from_entries {R = table_key_cmp} es) ≡ es
  entries-from_ordered es h = same_entries table_key_cmp table_key_cmp_total table_key_cmp_exact _ _ (entries_sorted (from_entries es)) (subst T (sym (sorted es h)) tt)
      (λ q. sym (get-entries (from_entries es) q) ∙ get-from_entries table_key_cmp_total es q)
